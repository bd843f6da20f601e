use Rattle.std.proofs.Common.{◌<◌, List, [], length, ◌∙◌, subst, arith}
use Rattle.std.specs.List.{Contains}
use Rattle.std.proofs.lemmas.List.{get_or_default}
use Rattle.sig_flat.specs.declared.inner.Inner.{Inner}
use Rattle.sig_flat.proofs.layout.links_of_blocks.Goals as goal

pub links_of-requires-clause-blocks : goal.links_of-requires-clause-blocks
links_of-requires-clause-blocks c = λ inner i.
    let lt : c.loop-k.k < length c.args.inners.now = omega arith in
    c.requires.blocks c.loop-k.k inner (subst (λ (l : List Inner). Contains l inner) (c.as_slice.ensures ∙ c.index-inners-k.is ∙ get_or_default c.args.inners.now c.loop-k.k c.index-inners-k.result [] lt) i)

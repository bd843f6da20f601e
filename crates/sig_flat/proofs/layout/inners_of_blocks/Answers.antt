use Rattle.std.proofs.Common.{◌<◌, ℕ, List, [], length, ◌∙◌, subst, arith}
use Rattle.std.specs.List.{Contains}
use Rattle.std.proofs.lemmas.List.{get_or_default}
use Rattle.sig_flat.proofs.layout.inners_of_blocks.Goals as goal

pub inners_of-requires-clause-known : goal.inners_of-requires-clause-known
inners_of-requires-clause-known c = λ n i.
    let lt : c.loop-k.k < length c.args.numbers.now = let e = c.requires.numbers in omega arith in
    c.requires.known c.loop-k.k n (subst (λ (l : List ℕ). Contains l n) (c.as_slice-in-loop-k.ensures ∙ c.index-numbers-k.is ∙ get_or_default c.args.numbers.now c.loop-k.k c.index-numbers-k.result [] lt) i)

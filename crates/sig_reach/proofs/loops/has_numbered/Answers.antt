use Rattle.std.proofs.Common.{◌<◌, length, get_or, arith, subst}
use Rattle.std.proofs.lemmas.Bool.{false≢true}
use Rattle.std.proofs.lemmas.List.{take_all}
use Rattle.std.proofs.lemmas.List.Elements.{Contains-get_or}
use Rattle.sig_reach.specs.Components.{HasNumbered}
use Rattle.sig_reach.proofs.loops.has_numbered.Goals as goal

pub bounds-numbers-node : goal.bounds-numbers-node
bounds-numbers-node c =
    let nodes = c.args.nodes.now in
    let lt : c.loop-node.node-index < length nodes = omega arith in
    c.requires (get_or nodes c.loop-node.node-index 0) (Contains-get_or nodes c.loop-node.node-index 0 lt)

pub returns : goal.returns
returns c =
    let nodes = c.args.nodes.now in
    let all = take_all c.loop-node.node-index nodes (omega arith) in (
      λ t. absurd (false≢true t),
      λ h. absurd (subst (λ l. HasNumbered l c.args.numbers.now c.args.number → ⊥) all c.loop-node.invariant h),
    )

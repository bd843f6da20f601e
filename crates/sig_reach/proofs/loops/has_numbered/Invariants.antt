use Rattle.std.proofs.Common.{take}
use Rattle.sig_reach.specs.Components.{HasNumbered}
use Rattle.sig_reach.proofs.loops.has_numbered.Given as goal

abbrev pub invariant-loop-node : goal.invariant-loop-node
invariant-loop-node l = HasNumbered (take l.node-index l.nodes) l.numbers l.number → ⊥

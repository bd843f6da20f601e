use Rattle.std.proofs.Common.{take}
use Rattle.sig_flat.specs.Counting.{AreSums}
use Rattle.sig_flat.proofs.counting.with_uses.Given as goal

abbrev pub invariant-loop-used : goal.invariant-loop-used
invariant-loop-used l = AreSums l.fn.own (take l.used-index l.uses) l.counts l.total

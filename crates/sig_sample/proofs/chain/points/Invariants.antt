use Rattle.std.proofs.Common.{◌≡◌, map}
use Rattle.std.specs.List.{range_with_len}
use Rattle.sig_sample.specs.Chain.{point}
use Rattle.sig_sample.proofs.chain.points.Given as goal

abbrev pub invariant-loop-i : goal.invariant-loop-i
invariant-loop-i l = l.points ≡ map point (range_with_len 1 l.i)

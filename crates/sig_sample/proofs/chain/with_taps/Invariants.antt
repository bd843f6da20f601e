use Rattle.std.proofs.Common.{◌≡◌, ◌++◌, map}
use Rattle.std.specs.List.{range_with_len}
use Rattle.sig_sample.specs.Chain.{tap}
use Rattle.sig_sample.proofs.chain.with_taps.Given as goal

abbrev pub invariant-loop-i : goal.invariant-loop-i
invariant-loop-i l = l.links ≡ l.fn.links ++ map tap (range_with_len 1 l.i)

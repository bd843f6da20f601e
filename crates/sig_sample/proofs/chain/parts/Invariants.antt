use Rattle.std.proofs.Common.{◌≡◌, map}
use Rattle.std.specs.List.{range_with_len}
use Rattle.sig_sample.specs.Chain.{part}
use Rattle.sig_sample.proofs.chain.parts.Given as goal

abbrev pub invariant-loop-i : goal.invariant-loop-i
invariant-loop-i l = l.parts ≡ map part (range_with_len 1 l.i)

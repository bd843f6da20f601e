use Rattle.std.proofs.Common.{◌≡◌, map}
use Rattle.std.specs.List.{range_with_len}
use Rattle.sig_sample.specs.Chain.{step}
use Rattle.sig_sample.proofs.chain.steps.Given as goal

abbrev pub invariant-loop-i : goal.invariant-loop-i
invariant-loop-i l = l.steps ≡ map step (range_with_len 1 l.i)

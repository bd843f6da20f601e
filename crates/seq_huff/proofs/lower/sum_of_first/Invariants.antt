use Rattle.std.proofs.Common.{◌≡◌}
use Rattle.seq_theory.specs.Bound.{sum_first}
use Rattle.seq_huff.proofs.lower.sum_of_first.Given as goal

abbrev pub invariant-loop-place : goal.invariant-loop-place
invariant-loop-place l = l.total ≡ sum_first l.place l.numbers

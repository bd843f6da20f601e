use Rattle.std.proofs.Common.{◌≢◌, ℕ, ◌<◌, get_or}
use Rattle.sig_matrix.specs.Detection.{test_at}
use Rattle.sig_matrix.proofs.building.is_used.Given as goal

abbrev pub invariant-loop-number : goal.invariant-loop-number
invariant-loop-number l = (k : ℕ) → k < l.number-index → (test_at l.tests (get_or l.numbers k 0)).mode ≢ l.mode

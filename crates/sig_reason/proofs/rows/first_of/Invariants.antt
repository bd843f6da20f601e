use Rattle.std.proofs.Common.{◌≡◌, ◌<◌, ℕ}
use Rattle.std.specs.Prelude.{false}
use Rattle.sig_matrix.specs.Detection.{in_row}
use Rattle.sig_reason.proofs.rows.first_of.Given as goal

-- no test so far is in the row
abbrev pub invariant-loop-test : goal.invariant-loop-test
invariant-loop-test l = (t : ℕ) → t < l.test → in_row l.row t ≡ false

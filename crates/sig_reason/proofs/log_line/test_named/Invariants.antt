use Rattle.std.proofs.Common.{◌≡◌, ℕ, ◌<◌, get_or}
use Rattle.std.specs.Prelude.{false}
use Rattle.std.specs.Str.{bytes_eq}
use Rattle.sig_matrix.specs.Detection.{no_label}
use Rattle.sig_reason.proofs.log_line.test_named.Given as goal

-- no test so far has the label
abbrev pub invariant-loop-test : goal.invariant-loop-test
invariant-loop-test l = (j : ℕ) → j < l.test → bytes_eq (get_or l.matrix.tests j no_label).label l.label ≡ false

use Rattle.std.proofs.Common.{◌≡◌}
use Rattle.std.specs.Prelude.{find, not, None}
use Rattle.seq_theory.specs.Problem.{count_up}
use Rattle.sig_matrix.specs.Detection.{in_row}
use Rattle.sig_figures.proofs.columns.first_clear.Given as goal

-- no test so far is clear
abbrev pub invariant-loop-test : goal.invariant-loop-test
invariant-loop-test l = find (λ test. not (in_row l.row test)) (count_up 0 l.test) ≡ None

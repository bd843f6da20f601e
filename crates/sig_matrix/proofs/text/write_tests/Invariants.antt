use Rattle.std.proofs.Common.{◌≡◌, map}
use Rattle.seq_theory.specs.Problem.{count_up}
use Rattle.sig_lines.specs.Pieces.{test_words}
use Rattle.sig_lines.specs.Written.{with_lines}
use Rattle.sig_matrix.specs.MatrixText.{column}
use Rattle.sig_matrix.proofs.text.write_tests.Given as goal

-- the tests before this one are written
abbrev pub invariant-loop-test : goal.invariant-loop-test
invariant-loop-test l = l.out ≡ with_lines l.fn.out (map (λ t. test_words t (column l.matrix t)) (count_up 0 l.test))

use Rattle.sig_lines.specs.Pieces.{test_words}
use Rattle.sig_matrix.specs.MatrixText.{column}
use Rattle.sig_matrix.proofs.TextLaws.{lines_next}
use Rattle.sig_matrix.proofs.text.write_tests.Goals as goal

pub loop-test-preserved : goal.loop-test-preserved
loop-test-preserved c = lines_next _ _ _ (λ t. test_words t (column c.args.matrix.now t)) c.loop-test.test c.loop-test.invariant c.in_ok-write_test.ensures

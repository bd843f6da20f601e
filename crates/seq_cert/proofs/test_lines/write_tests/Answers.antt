use Rattle.std.proofs.Common.{ap, ◌∙◌}
use Rattle.sig_lines.specs.Written.{with_line}
use Rattle.sig_lines.specs.declared.labels.TestLabel.{TestLabel}
use Rattle.sig_lines.specs.Pieces.{test_words}
use Rattle.seq_cert.proofs.Appended.{tests_more}
use Rattle.seq_cert.proofs.test_lines.write_tests.Goals as goal

pub loop-number-preserved : goal.loop-number-preserved
loop-number-preserved c =
    tests_more _ _ _ c.args.tests.now c.loop-number.number c.index-tests-number.result c.loop-number-test.true c.loop-number.invariant
    (c.in_ok-write_test.ensures ∙ ap (λ (t : TestLabel). with_line c.loop-number.out (test_words c.loop-number.number t)) c.index-tests-number.is)

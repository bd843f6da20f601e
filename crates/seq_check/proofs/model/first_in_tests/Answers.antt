use Rattle.std.proofs.Common.{drop, ap, sym, ◌∙◌}
use Rattle.seq_check.specs.ModelLooks.{has_line, is_test}
use Rattle.seq_check.proofs.SideLooks.{side_goes_on}
use Rattle.seq_check.proofs.model.first_in_tests.Goals as goal

pub loop-at-preserved : goal.loop-at-preserved
loop-at-preserved c =
    side_goes_on is_test c.args.line c.loop-at.at c.args.tests.now c.args.lines.now c.index-lines-at.result c.loop-at-test.true
    (ap (has_line is_test (drop c.loop-at.at c.args.tests.now)) (sym c.index-lines-at.is) ∙ sym c.if-not-is_test_at.ensures) c.loop-at.invariant

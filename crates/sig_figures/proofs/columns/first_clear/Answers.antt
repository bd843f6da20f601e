use Rattle.std.proofs.Common.{sym, ap}
use Rattle.std.specs.Prelude.{not}
use Rattle.sig_matrix.specs.Detection.{in_row}
use Rattle.sig_figures.proofs.UpTo.{find-none, found-first}
use Rattle.sig_figures.proofs.columns.first_clear.Goals as goal

pub returns-then-not-has_test : goal.returns-then-not-has_test
returns-then-not-has_test c = found-first (λ test. not (in_row c.args.row test)) c.loop-test.test c.args.tests c.loop-test-test.true c.loop-test.invariant (ap not (sym c.if-not-has_test.ensures))

pub loop-test-preserved : goal.loop-test-preserved
loop-test-preserved c = find-none (λ test. not (in_row c.args.row test)) c.loop-test.test c.loop-test.invariant (ap not (sym c.if-not-has_test.ensures))

use Rattle.sig_types.proofs.VerdictLaws.{handed-on, checked-fault}
use Rattle.sig_types.proofs.check.block.check_tests.Goals as goal

pub returns-in_err-check_test : goal.returns-in_err-check_test
returns-in_err-check_test c =
    handed-on _ _ _ c.from_residual.ensures.1 (checked-fault _ _ _ c.loop-t.invariant c.index-tests-t.result _ c.loop-t-test.true c.index-tests-t.is c.in_err-check_test.ensures.says)

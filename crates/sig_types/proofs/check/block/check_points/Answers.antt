use Rattle.sig_types.proofs.VerdictLaws.{handed-on, checked-fault}
use Rattle.sig_types.proofs.check.block.check_points.Goals as goal

pub returns-in_err-check_tests : goal.returns-in_err-check_tests
returns-in_err-check_tests c =
    let told = rw c.as_slice.ensures at c.in_err-check_tests.ensures in
    handed-on _ _ _ c.from_residual.ensures.1 (checked-fault _ _ _ c.loop-p.invariant c.index-points-p.result _ c.loop-p-test.true c.index-points-p.is told.says)

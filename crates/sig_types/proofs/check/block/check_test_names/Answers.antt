use Rattle.sig_types.proofs.VerdictLaws.{handed-on, checked-fault, checked-step}
use Rattle.sig_types.proofs.check.block.check_test_names.Goals as goal

pub returns-in_err-check_repeats : goal.returns-in_err-check_repeats
returns-in_err-check_repeats c =
    let told = rw (c.as_slice.ensures, c.item-spot.ensures, c.block.ensures) at c.in_err-check_repeats.ensures in
    handed-on _ _ _ c.from_residual.ensures.1 (checked-fault _ _ _ c.loop-p.invariant c.index-points-p.result _ c.loop-p-test.true c.index-points-p.is told.says)

pub loop-p-preserved : goal.loop-p-preserved
loop-p-preserved c =
    let none = rw (c.as_slice.ensures, c.item-spot.ensures, c.block.ensures) at c.in_ok-check_repeats.ensures in
    checked-step _ _ _ c.loop-p.invariant c.index-points-p.result c.loop-p-test.true c.index-points-p.is none.says

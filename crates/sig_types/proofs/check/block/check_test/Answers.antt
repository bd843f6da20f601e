use Rattle.sig_types.proofs.VerdictLaws.{handed-on, tells-left}
use Rattle.sig_types.proofs.check.block.check_test.Goals as goal

pub returns-in_err-check_known : goal.returns-in_err-check_known
returns-in_err-check_known c =
    let told = rw (c.signals.ensures, c.as_slice.ensures, c.at-signals.ensures, c.test-spot.ensures, c.item.ensures, c.block.ensures) at c.in_err-check_known.ensures in
    handed-on _ _ _ c.from_residual.ensures.1 (tells-left _ _ _ told.says)

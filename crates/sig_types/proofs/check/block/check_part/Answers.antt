use Rattle.sig_types.proofs.VerdictLaws.{handed-on, tells-left, verdict-right}
use Rattle.sig_types.proofs.check.block.check_part.Goals as goal

pub returns-in_err-check_functional : goal.returns-in_err-check_functional
returns-in_err-check_functional c =
    let told = rw (c.at-signals.ensures, c.item-spot.ensures, c.block.ensures) at c.in_err-check_functional.ensures in
    handed-on _ _ _ c.from_residual.ensures.1 (tells-left _ _ _ told.says)

pub returns : goal.returns
returns c =
    let functional = rw (c.at-signals.ensures, c.item-spot.ensures, c.block.ensures) at c.in_ok-check_functional.ensures in
    let stops = rw (c.signals.ensures, c.as_slice.ensures, c.at-stops.ensures, c.item-spot.ensures, c.block.ensures) at c.check_known.ensures in
    verdict-right _ _ _ functional.says stops

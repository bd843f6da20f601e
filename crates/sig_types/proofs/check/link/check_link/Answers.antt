use Rattle.sig_types.proofs.VerdictLaws.{handed-on, none-in_both, tells-left, tells-right, verdict-right}
use Rattle.sig_types.proofs.check.link.check_link.Goals as goal

pub returns-in_err-check_end : goal.returns-in_err-check_end
returns-in_err-check_end c =
    let told = rw (c.place.ensures, c.at.ensures, c.item-spot.ensures, c.block.ensures, c.number.ensures) at c.in_err-check_end.ensures in
    handed-on _ _ _ c.from_residual.ensures.1 (tells-left _ _ _ (tells-left _ _ _ (tells-left _ _ _ told.says)))

pub returns-in_err-check_end-2 : goal.returns-in_err-check_end-2
returns-in_err-check_end-2 c =
    let from = rw (c.place.ensures, c.at.ensures, c.item-spot.ensures, c.block.ensures, c.number.ensures) at c.in_ok-check_end.ensures in
    let told = rw (c.place-2.ensures, c.at-2.ensures, c.item-spot.ensures, c.block.ensures, c.number.ensures) at c.in_err-check_end-2.ensures in
    handed-on _ _ _ c.from_residual-in_err-check_end-2.ensures.1 (tells-left _ _ _ (tells-left _ _ _ (tells-right _ _ _ from.says told.says)))

pub returns-in_err-check_known : goal.returns-in_err-check_known
returns-in_err-check_known c =
    let from = rw (c.place.ensures, c.at.ensures, c.item-spot.ensures, c.block.ensures, c.number.ensures) at c.in_ok-check_end.ensures in
    let to = rw (c.place-2.ensures, c.at-2.ensures, c.item-spot.ensures, c.block.ensures, c.number.ensures) at c.in_ok-check_end-2.ensures in
    let told = rw (c.modes.ensures, c.as_slice.ensures, c.at-3.ensures, c.item-spot.ensures, c.block.ensures, c.number.ensures) at c.in_err-check_known.ensures in
    handed-on _ _ _ c.from_residual-in_err-check_known.ensures.1 (tells-left _ _ _ (tells-right _ _ _ (none-in_both _ _ from.says to.says) told.says))

pub returns : goal.returns
returns c =
    let from = rw (c.place.ensures, c.at.ensures, c.item-spot.ensures, c.block.ensures, c.number.ensures) at c.in_ok-check_end.ensures in
    let to = rw (c.place-2.ensures, c.at-2.ensures, c.item-spot.ensures, c.block.ensures, c.number.ensures) at c.in_ok-check_end-2.ensures in
    let modes = rw (c.modes.ensures, c.as_slice.ensures, c.at-3.ensures, c.item-spot.ensures, c.block.ensures, c.number.ensures) at c.in_ok-check_known.ensures in
    let last = rw (c.place-3.ensures, c.item-spot.ensures, c.block.ensures, c.number.ensures) at c.check_modes_named.ensures in
    verdict-right _ _ _ (none-in_both _ _ (none-in_both _ _ from.says to.says) modes.says) last

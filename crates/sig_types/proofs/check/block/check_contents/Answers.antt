use Rattle.sig_types.proofs.VerdictLaws.{handed-on, none-in_both, tells-left, tells-right, verdict-right}
use Rattle.sig_types.proofs.check.block.check_contents.Goals as goal

pub returns-in_err-check_test_names : goal.returns-in_err-check_test_names
returns-in_err-check_test_names c =
    let told = rw c.as_slice.ensures at c.in_err-check_test_names.ensures in
    handed-on _ _ _ c.from_residual.ensures.1 (tells-left _ _ _ (tells-left _ _ _ (tells-left _ _ _ (tells-left _ _ _ told.says))))

pub returns-in_err-check_parts : goal.returns-in_err-check_parts
returns-in_err-check_parts c =
    let tests = rw c.as_slice.ensures at c.in_ok-check_test_names.ensures in
    let told = rw c.as_slice-2.ensures at c.in_err-check_parts.ensures in
    handed-on _ _ _ c.from_residual-in_err-check_parts.ensures.1 (tells-left _ _ _ (tells-left _ _ _ (tells-left _ _ _ (tells-right _ _ _ tests.says told.says))))

pub returns-in_err-check_uses : goal.returns-in_err-check_uses
returns-in_err-check_uses c =
    let tests = rw c.as_slice.ensures at c.in_ok-check_test_names.ensures in
    let parts = rw c.as_slice-2.ensures at c.in_ok-check_parts.ensures in
    let told = rw c.as_slice-3.ensures at c.in_err-check_uses.ensures in
    handed-on _ _ _ c.from_residual-in_err-check_uses.ensures.1 (tells-left _ _ _ (tells-left _ _ _ (tells-right _ _ _ (none-in_both _ _ tests.says parts.says) told.says)))

pub returns-in_err-check_points : goal.returns-in_err-check_points
returns-in_err-check_points c =
    let tests = rw c.as_slice.ensures at c.in_ok-check_test_names.ensures in
    let parts = rw c.as_slice-2.ensures at c.in_ok-check_parts.ensures in
    let uses = rw c.as_slice-3.ensures at c.in_ok-check_uses.ensures in
    let told = rw c.as_slice-4.ensures at c.in_err-check_points.ensures in
    handed-on _ _ _ c.from_residual-in_err-check_points.ensures.1 (tells-left _ _ _ (tells-right _ _ _ (none-in_both _ _ (none-in_both _ _ tests.says parts.says) uses.says) told.says))

pub returns : goal.returns
returns c =
    let tests = rw c.as_slice.ensures at c.in_ok-check_test_names.ensures in
    let parts = rw c.as_slice-2.ensures at c.in_ok-check_parts.ensures in
    let uses = rw c.as_slice-3.ensures at c.in_ok-check_uses.ensures in
    let points = rw c.as_slice-4.ensures at c.in_ok-check_points.ensures in
    let links = rw (c.as_slice-5.ensures, c.requires) at c.check_links.ensures in
    verdict-right _ _ _ (none-in_both _ _ (none-in_both _ _ (none-in_both _ _ tests.says parts.says) uses.says) points.says) links

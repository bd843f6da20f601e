use Rattle.sig_types.proofs.VerdictLaws.{handed-on, none-in_both, tells-left, tells-right}
use Rattle.sig_types.proofs.check.block.check_block.Goals as goal

pub returns-in_err-scope-clause-verdict : goal.returns-in_err-scope-clause-verdict
returns-in_err-scope-clause-verdict c =
    handed-on _ _ _ c.from_residual.ensures.1 (tells-left _ _ _ c.in_err-scope.ensures.verdict.says)

pub returns-in_err-check_contents-clause-verdict : goal.returns-in_err-check_contents-clause-verdict
returns-in_err-check_contents-clause-verdict c =
    handed-on _ _ _ c.from_residual-in_err-check_contents.ensures.1 (tells-right _ _ _ c.in_ok-scope.ensures.verdict.says c.in_err-check_contents.ensures.says)

pub returns-clause-verdict : goal.returns-clause-verdict
returns-clause-verdict c =
    record { says = none-in_both _ _ c.in_ok-scope.ensures.verdict.says c.in_ok-check_contents.ensures.says }

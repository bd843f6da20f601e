use Rattle.sig_types.proofs.VerdictLaws.{handed-on, none-in_both, tells-left, tells-right}
use Rattle.sig_types.proofs.check.check_model.Goals as goal

pub returns-in_err-check_counts-clause-verdict : goal.returns-in_err-check_counts-clause-verdict
returns-in_err-check_counts-clause-verdict c =
    handed-on _ _ _ c.from_residual.ensures.1 (tells-left _ _ _ (tells-left _ _ _ c.in_err-check_counts.ensures.says))

pub returns-in_err-index-clause-verdict : goal.returns-in_err-index-clause-verdict
returns-in_err-index-clause-verdict c =
    handed-on _ _ _ c.from_residual-in_err-index.ensures.1 (tells-left _ _ _ (tells-right _ _ _ c.in_ok-check_counts.ensures.says c.in_err-index.ensures.verdict.says))

pub returns-in_err-items-clause-verdict : goal.returns-in_err-items-clause-verdict
returns-in_err-items-clause-verdict c =
    handed-on _ _ _ c.from_residual-in_err-items.ensures.1 (tells-right _ _ _ (none-in_both _ _ c.in_ok-check_counts.ensures.says c.in_ok-index.ensures.verdict.says) c.in_err-items.ensures.verdict.says)

pub returns-clause-verdict : goal.returns-clause-verdict
returns-clause-verdict c =
    record { says = none-in_both _ _ (none-in_both _ _ c.in_ok-check_counts.ensures.says c.in_ok-index.ensures.verdict.says) c.in_ok-items.ensures.verdict.says }

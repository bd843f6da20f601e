use Rattle.sig_types.proofs.VerdictLaws.{handed-on, checked-fault}
use Rattle.sig_types.proofs.check.link.check_links.Goals as goal

pub returns-in_err-check_link : goal.returns-in_err-check_link
returns-in_err-check_link c =
    handed-on _ _ _ c.from_residual.ensures.1 (checked-fault _ _ _ c.loop-k.invariant c.index-links-k.result _ c.loop-k-test.true c.index-links-k.is c.in_err-check_link.ensures.says)

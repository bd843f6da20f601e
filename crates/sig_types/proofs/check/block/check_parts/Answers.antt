use Rattle.sig_types.proofs.VerdictLaws.{handed-on, checked-fault}
use Rattle.sig_types.proofs.check.block.check_parts.Goals as goal

pub returns-in_err-check_part : goal.returns-in_err-check_part
returns-in_err-check_part c =
    handed-on _ _ _ c.from_residual.ensures.1 (checked-fault _ _ _ c.loop-k.invariant c.index-parts-k.result _ c.loop-k-test.true c.index-parts-k.is c.in_err-check_part.ensures.says)

use Rattle.sig_types.proofs.VerdictLaws.{handed-on, checked-fault}
use Rattle.sig_types.proofs.check.block.check_blocks.Goals as goal

pub returns-in_err-check_block-clause-verdict : goal.returns-in_err-check_block-clause-verdict
returns-in_err-check_block-clause-verdict c =
    handed-on _ _ _ c.from_residual-in_err-check_block.ensures.1 (checked-fault _ _ _ c.loop-b.invariant.checked c.index-blocks-b.result _ c.loop-b-test.true c.index-blocks-b.is c.in_err-check_block.ensures.verdict.says)

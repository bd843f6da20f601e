use Rattle.sig_matrix.proofs.DetectionLaws.{detected-any, detected-none}
use Rattle.sig_matrix.proofs.detection.is_detected.Goals as goal

pub returns-then-common-ne0 : goal.returns-then-common-ne0
returns-then-common-ne0 c = detected-any c.args.reach.now.flat c.args.fault.now c.args.test.now c.args.reach.now.mode c.carries_any.result c.if-fault.false c.requires.mode c.carries_any.ensures

pub returns-else-common-ne0 : goal.returns-else-common-ne0
returns-else-common-ne0 c = detected-none c.args.reach.now.flat c.args.fault.now c.args.test.now c.if-fault.false c.if-common-ne0.false

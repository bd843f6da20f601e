use Rattle.sig_reason.proofs.WordLaws.{common-is}
use Rattle.sig_reason.proofs.rows.common.Goals as goal

pub returns : goal.returns
returns c = common-is c.args.a c.args.b

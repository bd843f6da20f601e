use Rattle.sig_reason.proofs.WordLaws.{joined-is}
use Rattle.sig_reason.proofs.rows.joined.Goals as goal

pub returns : goal.returns
returns c = joined-is c.args.a c.args.b

use Rattle.sig_reason.proofs.WordLaws.{without-is}
use Rattle.sig_reason.proofs.rows.without.Goals as goal

pub returns : goal.returns
returns c = without-is c.args.a c.args.b

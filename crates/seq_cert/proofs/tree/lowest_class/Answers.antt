use Rattle.std.proofs.Common.{arith}
use Rattle.seq_cert.proofs.TreeText.{lowest_some, lowest_none}
use Rattle.seq_cert.proofs.tree.lowest_class.Goals as goal

pub returns-in-Some : goal.returns-in-Some
returns-in-Some c = lowest_some c.args.group.now c.first_from.result c.in-Some.class (c.first_from.ensures.step (omega arith)) c.in-Some.is

pub returns-in-None : goal.returns-in-None
returns-in-None c = lowest_none c.args.group.now c.first_from.result (c.first_from.ensures.step (omega arith)) c.in-None.is

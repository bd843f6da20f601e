use Rattle.std.proofs.Common.{◌∙◌}
use Rattle.seq_inst.proofs.SameGroups.{words-tell}
use Rattle.seq_inst.proofs.group.Group.is_same.Goals as goal

pub returns : goal.returns
returns c = c.eq.ensures ∙ words-tell c.args.self.now c.args.other.now c.group_stands.ensures c.group_stands-2.ensures

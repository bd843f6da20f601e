use Rattle.std.proofs.Common.{sym}
use Rattle.seq_inst.specs.Instances.{problem_of}
use Rattle.seq_check.proofs.SizedGroups.{sized_within}
use Rattle.seq_check.proofs.groups.first_in_group.Goals as goal

pub is_allowed-requires-clause-within : goal.is_allowed-requires-clause-within
is_allowed-requires-clause-within c = sized_within (problem_of c.args.inst.now) (c.args.line.now).size (c.args.line.now).group (sym c.if-not-is_sized.ensures)

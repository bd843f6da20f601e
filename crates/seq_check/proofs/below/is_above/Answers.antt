use Rattle.std.proofs.Common.{sym}
use Rattle.seq_inst.specs.Instances.{problem_of}
use Rattle.seq_inst.specs.Members.{members}
use Rattle.seq_check.proofs.SizedGroups.{all-within}
use Rattle.seq_check.proofs.below.is_above.Goals as goal

pub ordered_bound-requires-clause-within : goal.ordered_bound-requires-clause-within
ordered_bound-requires-clause-within c = all-within (problem_of c.args.inst.now) (members (c.args.line.now).group) (sym c.if-not-has_only_classes.ensures)

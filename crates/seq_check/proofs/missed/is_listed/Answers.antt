use Rattle.std.proofs.Common.{ap, ◌∙◌}
use Rattle.std.specs.Prelude.{is_some}
use Rattle.seq_check.proofs.Alike.{listed_is}
use Rattle.seq_check.proofs.missed.is_listed.Goals as goal

pub returns : goal.returns
returns c = λ lines are. c.contains_key.ensures ∙ ap is_some (are c.args.group.now c.group_stands.ensures) ∙ listed_is lines c.args.group.now

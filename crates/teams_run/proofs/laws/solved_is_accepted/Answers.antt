use Rattle.teams_run.proofs.OneAccepted.{solved-accepted}
use Rattle.teams_run.proofs.laws.solved_is_accepted.Goals as goal

pub returns : goal.returns
returns c = solved-accepted c.passage_holds.ensures

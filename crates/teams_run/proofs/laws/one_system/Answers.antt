use Rattle.teams_run.proofs.OneSystem.{one-system}
use Rattle.teams_run.proofs.laws.one_system.Goals as goal

pub returns : goal.returns
returns c = one-system c.one_flat.ensures c.one_matrix.ensures

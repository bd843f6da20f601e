use Rattle.seq_finish.proofs.OutcomeLaws.{outcomes_hold as law}
use Rattle.seq_finish.proofs.laws.outcomes_hold.Goals as goal

pub returns : goal.returns
returns c = law c.entered_holds.ensures

use Rattle.seq_shown.proofs.Printing.{outcomes_print as law}
use Rattle.seq_shown.proofs.laws.outcomes_print.Goals as goal

pub returns : goal.returns
returns c = law

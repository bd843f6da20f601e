use Rattle.seq_theory.proofs.PublicLaws.{entered_holds as law}
use Rattle.seq_theory.proofs.laws.entered_holds.Goals as goal

pub returns : goal.returns
returns c = law

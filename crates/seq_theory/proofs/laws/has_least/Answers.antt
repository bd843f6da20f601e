use Rattle.seq_theory.proofs.PublicLaws.{has_least as law}
use Rattle.seq_theory.proofs.laws.has_least.Goals as goal

pub returns : goal.returns
returns c = law

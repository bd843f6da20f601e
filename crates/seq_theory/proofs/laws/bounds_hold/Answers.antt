use Rattle.seq_theory.proofs.PublicLaws.{bounds_hold as law}
use Rattle.seq_theory.proofs.laws.bounds_hold.Goals as goal

pub returns : goal.returns
returns c = law

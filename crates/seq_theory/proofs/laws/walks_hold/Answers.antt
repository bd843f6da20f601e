use Rattle.seq_theory.proofs.PublicLaws.{walks_hold as law}
use Rattle.seq_theory.proofs.laws.walks_hold.Goals as goal

pub returns : goal.returns
returns c = law

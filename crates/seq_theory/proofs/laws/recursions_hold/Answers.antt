use Rattle.seq_theory.proofs.RecursionProofs.{recursions_hold as law}
use Rattle.seq_theory.proofs.laws.recursions_hold.Goals as goal

pub returns : goal.returns
returns c = law

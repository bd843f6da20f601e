use Rattle.seq_theory.proofs.PassageProofs.{classes_hold as law}
use Rattle.seq_theory.proofs.passage.classes_hold.Goals as goal

pub returns : goal.returns
returns c = law

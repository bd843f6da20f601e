use Rattle.seq_theory.proofs.PassageProofs.{passage_holds as law}
use Rattle.seq_theory.proofs.passage.passage_holds.Goals as goal

pub returns : goal.returns
returns c = law

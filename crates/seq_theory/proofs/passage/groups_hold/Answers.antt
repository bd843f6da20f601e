use Rattle.seq_theory.proofs.PassageProofs.{groups_hold as law}
use Rattle.seq_theory.proofs.passage.groups_hold.Goals as goal

pub returns : goal.returns
returns c = law

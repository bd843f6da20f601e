use Rattle.seq_theory.proofs.RecursionProofs.{sound_rows_hold as law}
use Rattle.seq_theory.proofs.laws.sound_rows_hold.Goals as goal

pub returns : goal.returns
returns c = law

use Rattle.seq_theory.proofs.PublicLaws.{runs_hold as law, no_rows_are_sound}
use Rattle.seq_theory.proofs.laws.runs_hold.Goals as goal

pub returns : goal.returns
returns c = record { start = no_rows_are_sound; runs = law }

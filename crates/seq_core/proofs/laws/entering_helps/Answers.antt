use Rattle.seq_core.proofs.EventLaws.{low_grows, val_falls}
use Rattle.seq_core.proofs.laws.entering_helps.Goals as goal

pub returns : goal.returns
returns c = record { low = low_grows; val = val_falls }

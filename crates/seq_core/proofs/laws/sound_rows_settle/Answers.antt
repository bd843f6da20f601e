use Rattle.seq_core.proofs.EventLaws.{sound_are_groups}
use Rattle.seq_core.proofs.laws.sound_rows_settle.Goals as goal

pub returns : goal.returns
returns c = sound_are_groups

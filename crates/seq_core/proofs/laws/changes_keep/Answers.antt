use Rattle.seq_core.proofs.EventLaws.{enters_keep, raises_keep, caps_keep}
use Rattle.seq_core.proofs.laws.changes_keep.Goals as goal

pub returns : goal.returns
returns c = record { enters = enters_keep; raises = raises_keep; caps = caps_keep }

use Rattle.seq_check.proofs.Certified.{certified_shows}
use Rattle.seq_check.proofs.laws.certified_holds.Goals as goal

pub returns : goal.returns
returns c = certified_shows c.certificate_holds.ensures.sound

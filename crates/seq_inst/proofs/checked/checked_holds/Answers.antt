use Rattle.seq_inst.proofs.ValidLaws.{IsValid-of as law}
use Rattle.seq_inst.proofs.checked.checked_holds.Goals as goal

pub returns : goal.returns
returns c = law

use Rattle.seq_inst.proofs.SameGroups.{same_words_hold as law}
use Rattle.seq_inst.proofs.words.same_words_hold.Goals as goal

pub returns : goal.returns
returns c = law

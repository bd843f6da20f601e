use Rattle.seq_words.proofs.Licence.{knowing-more}
use Rattle.seq_words.proofs.laws.knowing_more_allows.Goals as goal

pub returns : goal.returns
returns c = knowing-more

use Rattle.seq_huff.specs.Potential.{lines, potential}
use Rattle.seq_huff.proofs.potential.potential_of.Goals as goal

pub returns : goal.returns
unfolding lines potential
returns c = c.most_value_in.ensures

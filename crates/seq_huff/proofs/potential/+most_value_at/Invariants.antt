use Rattle.std.proofs.Common.{length}
use Rattle.seq_huff.proofs.potential.+most_value_at.Given as goal

abbrev pub decreases-most_value_at : goal.decreases-most_value_at
decreases-most_value_at l = length l.lines.now

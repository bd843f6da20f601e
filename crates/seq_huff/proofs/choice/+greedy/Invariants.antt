use Rattle.std.proofs.Common.{length}
use Rattle.seq_inst.specs.Members.{members}
use Rattle.seq_huff.proofs.choice.+greedy.Given as goal

abbrev pub decreases-greedy : goal.decreases-greedy
decreases-greedy l = length (members l.group.now)

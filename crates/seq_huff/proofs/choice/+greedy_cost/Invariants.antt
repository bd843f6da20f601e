use Rattle.std.proofs.Common.{length}
use Rattle.seq_inst.specs.Members.{members}
use Rattle.seq_huff.proofs.choice.+greedy_cost.Given as goal

abbrev pub decreases-greedy_cost : goal.decreases-greedy_cost
decreases-greedy_cost l = length (members l.group.now)

use Rattle.std.proofs.Common.{length}
use Rattle.seq_inst.specs.Members.{members}
use Rattle.seq_graph.proofs.numbers.Numbers.+greedy_tree.Given as goal

abbrev pub decreases-greedy_tree : goal.decreases-greedy_tree
decreases-greedy_tree l = length (members l.group.now)

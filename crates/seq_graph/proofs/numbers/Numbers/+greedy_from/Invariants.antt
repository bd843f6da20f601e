use Rattle.std.proofs.Common.{length}
use Rattle.seq_inst.specs.Members.{members}
use Rattle.seq_graph.proofs.numbers.Numbers.+greedy_from.Given as goal

abbrev pub decreases-greedy_from : goal.decreases-greedy_from
decreases-greedy_from l = length (members l.group.now)

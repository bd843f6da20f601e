use Rattle.std.proofs.Common.{length}
use Rattle.seq_inst.specs.Members.{members}
use Rattle.seq_finish.proofs.strategy.+strategy_of.Given as goal

abbrev pub decreases-strategy_of : goal.decreases-strategy_of
decreases-strategy_of l = length (members l.group.now)

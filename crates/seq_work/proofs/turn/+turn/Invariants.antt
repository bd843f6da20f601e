use Rattle.std.proofs.Common.{length}
use Rattle.seq_inst.specs.Members.{members}
use Rattle.seq_graph.specs.Known.{group_at}
use Rattle.seq_work.proofs.turn.+turn.Given as goal

abbrev pub decreases-turn : goal.decreases-turn
decreases-turn g l = length (members (group_at l.local.now.graph.rows.items l.node))

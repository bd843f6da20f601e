use Rattle.std.proofs.Common.{◌≡◌, length}
use Rattle.seq_theory.specs.Bound.{step_sum}
use Rattle.seq_theory.specs.Rows.{known_low}
use Rattle.seq_inst.specs.Members.{members}
use Rattle.seq_inst.specs.Instances.{problem_of}
use Rattle.seq_core.specs.RowsOf.{rows_of as rows_from}
use Rattle.seq_graph.specs.Choice.{IsChoice}
use Rattle.seq_graph.specs.Rooms.{KeepsRoom}
use Rattle.seq_graph.specs.Known.{IsKnown, group_at, splits_at, waiting_at}
use Rattle.seq_graph.proofs.choice.least_test.Given as goal

abbrev pub invariant-loop-at : goal.invariant-loop-at
invariant-loop-at l = record {
  known : IsKnown (problem_of l.inst) l.graph;
  rows : l.graph.rows ≡ l.initial.graph.rows;
  keeps : KeepsRoom l.initial.graph l.graph;
  chosen : IsChoice (step_sum (problem_of l.inst) (known_low (problem_of l.inst) (rows_from l.graph.rows.items)) (members (group_at l.graph.rows.items l.place))) (splits_at l.graph.nodes.items l.place) l.chosen;
}

abbrev pub decreases-loop-at : goal.decreases-loop-at
decreases-loop-at l = length (waiting_at l.graph.nodes.items l.place)

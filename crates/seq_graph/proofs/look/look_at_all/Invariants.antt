use Rattle.std.proofs.Common.{◌≡◌, ◌-◌, length, take, None}
use Rattle.std.specs.Prelude.{All}
use Rattle.seq_theory.specs.Graph.{step_value}
use Rattle.seq_theory.specs.Rows.{known_up}
use Rattle.seq_inst.specs.Instances.{problem_of}
use Rattle.seq_inst.specs.Members.{members}
use Rattle.seq_core.specs.RowsOf.{rows_of as rows_from}
use Rattle.seq_graph.specs.Known.{IsKnown, group_at, waiting_at}
use Rattle.seq_graph.proofs.look.look_at_all.Given as goal

abbrev pub invariant-loop-at : goal.invariant-loop-at
invariant-loop-at l = record {
  known : IsKnown (problem_of l.inst) l.graph;
  rows : l.graph.rows ≡ l.initial.graph.rows;
  valued : All (λ w. step_value (problem_of l.inst) (known_up (problem_of l.inst) (rows_from l.graph.rows.items)) (members (group_at l.graph.rows.items l.place)) w.test ≡ None) (take l.at (waiting_at l.graph.nodes.items l.place));
}

abbrev pub decreases-loop-at : goal.decreases-loop-at
decreases-loop-at l = length (waiting_at l.graph.nodes.items l.place) - l.at

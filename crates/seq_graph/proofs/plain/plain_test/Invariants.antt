use Rattle.std.proofs.Common.{◌≡◌}
use Rattle.seq_theory.specs.Bound.{step_sum}
use Rattle.seq_theory.specs.Rows.{known_low}
use Rattle.seq_inst.specs.Members.{members}
use Rattle.seq_inst.specs.Instances.{problem_of}
use Rattle.seq_core.specs.RowsOf.{rows_of as rows_from}
use Rattle.seq_graph.specs.Choice.{LeastBelow}
use Rattle.seq_graph.specs.Known.{IsKnown}
use Rattle.seq_graph.specs.Rooms.{KeepsRoom}
use Rattle.seq_graph.proofs.plain.plain_test.Given as goal

abbrev pub invariant-loop-test : goal.invariant-loop-test
invariant-loop-test l = record {
  known : IsKnown (problem_of l.inst) l.graph;
  rows : l.graph.rows ≡ l.initial.graph.rows;
  nodes : l.graph.nodes ≡ l.initial.graph.nodes;
  keeps : KeepsRoom l.initial.graph l.graph;
  least : LeastBelow (problem_of l.inst) (members l.group) (step_sum (problem_of l.inst) (known_low (problem_of l.inst) (rows_from l.initial.graph.rows.items)) (members l.group)) l.test l.chosen;
}

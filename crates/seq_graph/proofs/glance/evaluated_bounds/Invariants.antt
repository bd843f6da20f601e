use Rattle.std.specs.Prelude.{◌≤◌, All, take}
use Rattle.seq_theory.specs.Bound.{step_sum}
use Rattle.seq_theory.specs.Rows.{known_low, least_up}
use Rattle.seq_inst.specs.Members.{members}
use Rattle.seq_inst.specs.Instances.{problem_of}
use Rattle.seq_core.specs.RowsOf.{rows_of as rows_from}
use Rattle.seq_graph.specs.Known.{group_at}
use Rattle.seq_graph.proofs.glance.evaluated_bounds.Given as goal

abbrev pub invariant-loop-split : goal.invariant-loop-split
invariant-loop-split l = record {
  low : All (λ s. l.low ≤ step_sum (problem_of l.inst) (known_low (problem_of l.inst) (rows_from l.graph.rows.items)) (members (group_at l.graph.rows.items l.place)) s.test) (take l.split-index l.splits);
  up : least_up (problem_of l.inst) (rows_from l.graph.rows.items) (members (group_at l.graph.rows.items l.place)) ≤ l.up;
}

use Rattle.std.proofs.Common.{◌≡◌, take}
use Rattle.std.specs.Prelude.{true, All}
use Rattle.seq_theory.specs.Graph.{is_entered}
use Rattle.seq_inst.specs.Instances.{problem_of}
use Rattle.seq_inst.specs.Members.{members}
use Rattle.seq_inst.specs.declared.outcome.Row.{Row}
use Rattle.seq_core.specs.Settled.{groups_in}
use Rattle.seq_graph.specs.Known.{IsKnown}
use Rattle.seq_finish.specs.Joining.{IsAllowedBy}
use Rattle.seq_finish.proofs.joining.join.Given as goal

abbrev pub invariant-loop-row : goal.invariant-loop-row
invariant-loop-row l = record {
  known : IsKnown (problem_of l.inst) l.graph;
  allowed : All (IsAllowedBy (problem_of l.inst) (groups_in l.rows)) l.graph.rows.items;
  there : All (λ (r : Row). is_entered (groups_in l.graph.rows.items) (members r.group) ≡ true) (take l.row-index l.rows);
}

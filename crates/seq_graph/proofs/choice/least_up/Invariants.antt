use Rattle.std.proofs.Common.{◌≡◌, ◌∷◌, map, take}
use Rattle.std.specs.List.{filter_map}
use Rattle.seq_theory.specs.Problem.{least_of}
use Rattle.seq_theory.specs.Graph.{step_value}
use Rattle.seq_theory.specs.Rows.{no_value, known_up}
use Rattle.seq_inst.specs.Members.{members}
use Rattle.seq_inst.specs.Instances.{problem_of}
use Rattle.seq_core.specs.RowsOf.{rows_of as rows_from}
use Rattle.seq_graph.specs.Known.{group_at}
use Rattle.seq_graph.proofs.choice.least_up.Given as goal

abbrev pub invariant-loop-split : goal.invariant-loop-split
invariant-loop-split l =
    l.least
    ≡ least_of
    (no_value
    ∷ filter_map (step_value (problem_of l.inst) (known_up (problem_of l.inst) (rows_from l.graph.rows.items)) (members (group_at l.graph.rows.items l.place))) (map (λ s. s.test) (take l.split-index l.splits)))

use Rattle.std.proofs.Common.{take}
use Rattle.seq_theory.specs.Bound.{step_sum}
use Rattle.seq_theory.specs.Rows.{known_low}
use Rattle.seq_inst.specs.Members.{members}
use Rattle.seq_inst.specs.Instances.{problem_of}
use Rattle.seq_core.specs.RowsOf.{rows_of as rows_from}
use Rattle.seq_graph.specs.Choice.{IsChoice}
use Rattle.seq_graph.specs.Known.{group_at}
use Rattle.seq_graph.proofs.choice.least_evaluated.Given as goal

abbrev pub invariant-loop-split : goal.invariant-loop-split
invariant-loop-split l = IsChoice (step_sum (problem_of l.inst) (known_low (problem_of l.inst) (rows_from l.graph.rows.items)) (members (group_at l.graph.rows.items l.place))) (take l.split-index l.splits) l.chosen

use Rattle.std.proofs.Common.{◌≡◌, take, map}
use Rattle.seq_inst.specs.Instances.{problem_of}
use Rattle.seq_core.specs.Settled.{groups_in, settled_row}
use Rattle.seq_finish.proofs.joining.settled_by.Given as goal

abbrev pub invariant-loop-row : goal.invariant-loop-row
invariant-loop-row l = l.settled.items ≡ map (settled_row (problem_of l.inst) (groups_in l.graph.rows.items)) (take l.row-index l.rows)

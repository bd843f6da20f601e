use Rattle.std.specs.Prelude.{IfSome}
use Rattle.seq_inst.specs.Members.{members}
use Rattle.seq_inst.specs.Instances.{problem_of}
use Rattle.seq_graph.specs.Choosing.{IsCandidate}
use Rattle.seq_graph.specs.Known.{group_at}
use Rattle.seq_graph.proofs.choosing.first_candidate.Given as goal

abbrev pub invariant-loop-split : goal.invariant-loop-split
invariant-loop-split l = IfSome l.first (IsCandidate (problem_of l.inst) l.graph.numbers l.graph.rows.items (members (group_at l.graph.rows.items l.place)))

use Rattle.seq_inst.specs.Members.{members}
use Rattle.seq_inst.specs.Instances.{problem_of}
use Rattle.seq_graph.specs.Choosing.{IsCandidate}
use Rattle.seq_graph.specs.Known.{group_at}
use Rattle.seq_graph.proofs.choosing.candidate_after.Given as goal

abbrev pub invariant-loop : goal.invariant-loop
invariant-loop l = IsCandidate (problem_of l.inst) l.graph.numbers l.graph.rows.items (members (group_at l.graph.rows.items l.place)) l.last

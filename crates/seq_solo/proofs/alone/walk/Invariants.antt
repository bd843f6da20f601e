use Rattle.seq_inst.specs.Instances.{problem_of}
use Rattle.seq_graph.specs.Known.{IsKnown}
use Rattle.seq_graph.specs.Walks.{left}
use Rattle.seq_solo.proofs.FoundLaws.{IsWalking}
use Rattle.seq_solo.proofs.alone.walk.Given as goal

abbrev pub invariant-turns : goal.invariant-turns
invariant-turns l = record {
  known : IsKnown (problem_of l.inst) l.graph;
  walk : IsWalking (problem_of l.inst) l.limit l.graph.rows.items;
}

abbrev pub decreases-turns : goal.decreases-turns
decreases-turns l = left l.limit l.graph.rows.items

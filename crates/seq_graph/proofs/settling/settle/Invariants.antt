use Rattle.seq_inst.specs.Instances.{problem_of}
use Rattle.seq_core.specs.Settled.{AreSettling, IsAmongFirst}
use Rattle.seq_graph.specs.Known.{IsKnown, AreSound}
use Rattle.seq_graph.proofs.settling.settle.Given as goal

abbrev pub invariant-loop-turn : goal.invariant-loop-turn
invariant-loop-turn l = record {
  known : IsKnown (problem_of l.inst) l.graph;
  sound : AreSound (problem_of l.inst) l.graph.rows.items;
  settling : AreSettling (problem_of l.inst) l.initial.graph.rows.items l.graph.rows.items (IsAmongFirst l.order.items l.turn);
}

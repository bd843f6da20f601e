use Rattle.seq_inst.specs.Instances.{problem_of}
use Rattle.seq_core.specs.Settled.{IsSettledTo}
use Rattle.seq_core.proofs.settling.settled.Given as goal

abbrev pub invariant-loop-turn : goal.invariant-loop-turn
invariant-loop-turn l = IsSettledTo (problem_of l.inst) l.rows l.core.rows l.order.items l.turn

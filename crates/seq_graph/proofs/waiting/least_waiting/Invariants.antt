use Rattle.seq_graph.proofs.WaitingLaws.{LeastSoFar}
use Rattle.seq_graph.proofs.waiting.least_waiting.Given as goal

abbrev pub invariant-loop-at : goal.invariant-loop-at
invariant-loop-at l = LeastSoFar l.waiting l.at l.least

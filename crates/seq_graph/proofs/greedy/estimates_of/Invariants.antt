use Rattle.seq_inst.specs.Members.{members}
use Rattle.seq_inst.specs.Instances.{problem_of}
use Rattle.seq_graph.proofs.GreedyChoiceLaws.{EstimatedSoFar}
use Rattle.seq_graph.proofs.greedy.estimates_of.Given as goal

abbrev pub invariant-loop-test : goal.invariant-loop-test
invariant-loop-test l = EstimatedSoFar (problem_of l.inst) (members l.group) l.test l.of_tests l.least

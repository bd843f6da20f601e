use Rattle.seq_inst.specs.Members.{members}
use Rattle.seq_inst.specs.Instances.{problem_of}
use Rattle.seq_graph.proofs.GreedyChoiceLaws.{FirstSoFar}
use Rattle.seq_graph.proofs.numbers.Numbers.test_by.Given as goal

abbrev pub invariant-loop-test : goal.invariant-loop-test
invariant-loop-test l = FirstSoFar (problem_of l.inst) (members l.group) l.initial.self l.self l.test l.chosen

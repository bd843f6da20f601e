use Rattle.std.proofs.Common.{min}
use Rattle.seq_theory.specs.Bound.{bound, step_sum}
use Rattle.seq_inst.specs.Members.{members}
use Rattle.seq_inst.specs.Instances.{problem_of}
use Rattle.seq_graph.specs.KeptOf.{WaitingSoFar}
use Rattle.seq_graph.proofs.node.list_waiting.Given as goal

abbrev pub invariant-loop-test : goal.invariant-loop-test
invariant-loop-test l = WaitingSoFar (problem_of l.inst) (members l.group) (step_sum (problem_of l.inst) (bound (problem_of l.inst)) (members l.group)) (min l.cap l.most) l.test l.waiting.items

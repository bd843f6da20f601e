use Rattle.seq_theory.specs.Problem.{splits}
use Rattle.seq_theory.specs.Bound.{step_sum, bound}
use Rattle.seq_theory.proofs.LeastOfLaws.{LeastSoFar}
use Rattle.seq_theory.specs.Below.{passing_below}
use Rattle.seq_inst.specs.Members.{members}
use Rattle.seq_inst.specs.Instances.{problem_of}
use Rattle.seq_huff.proofs.steps.one_step.Given as goal

abbrev pub invariant-loop-test : goal.invariant-loop-test
invariant-loop-test l = LeastSoFar (step_sum (problem_of l.inst) (bound (problem_of l.inst)) (members l.group)) (passing_below (splits (problem_of l.inst) (members l.group)) l.test) l.least

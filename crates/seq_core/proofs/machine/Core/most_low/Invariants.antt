use Rattle.seq_theory.specs.Problem.{splits}
use Rattle.seq_theory.proofs.LeastOfLaws.{LeastSoFar}
use Rattle.seq_inst.specs.Members.{members}
use Rattle.seq_inst.specs.Instances.{problem_of}
use Rattle.seq_theory.specs.Below.{passing_below}
use Rattle.seq_core.specs.Sums.{low_sum}
use Rattle.seq_core.proofs.machine.Core.most_low.Given as goal

abbrev pub invariant-loop-test : goal.invariant-loop-test
invariant-loop-test l = LeastSoFar (low_sum (problem_of l.inst) l.self.rows (members l.group)) (passing_below (splits (problem_of l.inst) (members l.group)) l.test) l.least

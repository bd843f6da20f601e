use Rattle.seq_theory.specs.Problem.{splits}
use Rattle.seq_theory.specs.Below.{passing_below}
use Rattle.seq_inst.specs.Members.{members}
use Rattle.seq_inst.specs.Instances.{problem_of}
use Rattle.seq_huff.proofs.Written.{Written}
use Rattle.seq_huff.proofs.lower.write_costs.Given as goal

abbrev pub invariant-loop-test : goal.invariant-loop-test
invariant-loop-test l = Written (problem_of l.inst).cost (passing_below (splits (problem_of l.inst) (members l.group)) l.test) l.out l.count

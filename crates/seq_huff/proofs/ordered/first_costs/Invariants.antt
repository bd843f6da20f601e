use Rattle.seq_inst.specs.Members.{members}
use Rattle.seq_inst.specs.Instances.{problem_of}
use Rattle.seq_huff.proofs.FirstCostLaws.{Counted}
use Rattle.seq_huff.proofs.ordered.first_costs.Given as goal

abbrev pub invariant-loop-place : goal.invariant-loop-place
invariant-loop-place l = Counted (problem_of l.inst) (members l.group) l.order.tests.items l.count l.place l.sum l.left

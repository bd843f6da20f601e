use Rattle.std.proofs.Common.{drop}
use Rattle.seq_inst.specs.Members.{members}
use Rattle.seq_inst.specs.Instances.{problem_of}
use Rattle.seq_huff.proofs.FirstCostLaws.{costs_among}
use Rattle.seq_huff.proofs.SumsLaws.{Summed}
use Rattle.seq_huff.proofs.sums.write_sums.Given as goal

abbrev pub invariant-loop-place : goal.invariant-loop-place
invariant-loop-place l = Summed (costs_among (problem_of l.inst) (members l.group) l.order.tests.items) (costs_among (problem_of l.inst) (members l.group) (drop l.place l.order.tests.items)) l.out l.count l.place l.total

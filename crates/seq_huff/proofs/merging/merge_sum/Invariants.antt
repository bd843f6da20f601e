use Rattle.seq_huff.proofs.MergingLaws.{Merging}
use Rattle.seq_huff.proofs.merging.merge_sum.Given as goal

abbrev pub invariant-loop-made : goal.invariant-loop-made
invariant-loop-made l = Merging l.fn.numbers l.numbers l.fronts.weight l.fronts.sum l.made l.cost

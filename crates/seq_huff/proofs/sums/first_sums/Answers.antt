use Rattle.std.proofs.Common.{arith}
use Rattle.seq_huff.proofs.SumsLaws.{sums-all}
use Rattle.seq_huff.proofs.sums.first_sums.Goals as goal

pub returns : goal.returns
returns c = sums-all _ c.write_sums-count.new.out c.write_from.new.out c.write_sums-count.result 258 c.write_sums-count.ensures.sums c.write_sums-count.ensures.all c.write_from.ensures.before (λ k ge lt. c.write_from.ensures.after k ge (omega arith))

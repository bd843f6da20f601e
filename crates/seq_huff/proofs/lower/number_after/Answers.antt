use Rattle.std.proofs.Common.{rules}
use Rattle.seq_huff.proofs.BoundFits.{next_read}
use Rattle.seq_huff.proofs.lower.number_after.Goals as goal

pub returns : goal.returns
returns c = let e = next_read c.args.count c.args.numbers.now in search rules

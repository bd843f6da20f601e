use Rattle.std.proofs.Common.{arith}
use Rattle.sig_matrix.proofs.FillingLaws.{with_bit-is}
use Rattle.sig_matrix.proofs.row.with_test.Goals as goal

pub returns : goal.returns
returns c = with_bit-is c.args.row c.args.test (omega arith)

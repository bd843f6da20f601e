use Rattle.std.proofs.Common.{arith, rules}
use Rattle.seq_cert.proofs.groups.line_of.Goals as goal

pub returns-clause-fits : goal.returns-clause-fits
returns-clause-fits c = let size = c.count_of.type_inv in record { size = omega arith; group = c.know_group.ensures; low = search rules }

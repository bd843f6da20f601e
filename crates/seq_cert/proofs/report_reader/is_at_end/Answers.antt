use Rattle.std.proofs.Common.{sym}
use Rattle.seq_cert.proofs.Ends.{nothing_left_is}
use Rattle.seq_cert.proofs.report_reader.is_at_end.Goals as goal

pub returns : goal.returns
returns c = sym (nothing_left_is c.lines_hold.ensures (c.args.at.rest).now)

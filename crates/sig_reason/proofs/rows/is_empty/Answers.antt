use Rattle.std.proofs.Common.{◌<◌, ◌^◌, get_or, arith, rules}
use Rattle.sig_reason.proofs.WordLaws.{some-from}
use Rattle.sig_reason.proofs.rows.is_empty.Goals as goal

pub returns-then-row-at-ne0-clause-some : goal.returns-then-row-at-ne0-clause-some
returns-then-row-at-ne0-clause-some c =
    let fits : get_or c.args.row c.loop-at.at 0 < 2 ^ 64 = search rules in
    some-from c.args.row c.loop-at.at (omega arith) fits c.if-row-at-ne0.true

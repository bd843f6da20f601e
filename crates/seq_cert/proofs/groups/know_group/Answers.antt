use Rattle.std.proofs.Common.{arith}
use Rattle.seq_cert.proofs.FormLaws.{group_is}
use Rattle.seq_cert.proofs.groups.know_group.Goals as goal

pub returns : goal.returns
returns c =
    let words = c.group_stands.ensures in
    let eight = words.eight in
    group_is c.lines_hold.ensures (c.args.group.now).0 words.eight (λ i lt. words.each i (omega arith))

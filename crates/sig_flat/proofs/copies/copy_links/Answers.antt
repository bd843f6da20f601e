use Rattle.std.proofs.Common.{◌<◌, length, arith}
use Rattle.std.proofs.lemmas.List.Elements.{Contains-get_or}
use Rattle.sig_flat.proofs.copies.copy_links.Goals as goal

pub copy_of_link-requires-clause-from : goal.copy_of_link-requires-clause-from
copy_of_link-requires-clause-from c =
    let lt : c.loop-link.link-index < length c.args.patterns.now = omega arith in
    (c.requires _ (Contains-get_or c.args.patterns.now c.loop-link.link-index _ lt)).0

pub copy_of_link-requires-clause-to : goal.copy_of_link-requires-clause-to
copy_of_link-requires-clause-to c =
    let lt : c.loop-link.link-index < length c.args.patterns.now = omega arith in
    (c.requires _ (Contains-get_or c.args.patterns.now c.loop-link.link-index _ lt)).1

use Rattle.std.proofs.Common.{◌<◌, length, get_or, arith}
use Rattle.std.proofs.lemmas.List.Elements.{Contains-get_or}
use Rattle.sig_flat.proofs.inner.inners_of.Goals as goal

pub bounds-counts-block : goal.bounds-counts-block
bounds-counts-block c =
    let lt : c.loop-nth.nth < length c.args.numbers.now = let e = c.requires.long in omega arith in
    c.requires.known (get_or c.args.numbers.now c.loop-nth.nth 0) (Contains-get_or c.args.numbers.now c.loop-nth.nth 0 lt)

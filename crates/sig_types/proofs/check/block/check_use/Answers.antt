use Rattle.std.proofs.Common.{sym}
use Rattle.std.specs.Str.{bytes_eq}
use Rattle.sig_types.specs.Breaches.{block_names}
use Rattle.sig_types.proofs.LookupLaws.{position-index}
use Rattle.sig_types.proofs.check.block.check_use.Goals as goal

pub returns-in-Some : goal.returns-in-Some
returns-in-Some c =
    let known = sym c.in-Some.ensures.found in
    let number = position-index (bytes_eq c.args.used.now.block) (block_names c.args.index.now) c.in-Some.other (sym c.in-Some.ensures.number) in
    let told = rw (c.place-place.ensures, c.at.ensures, c.item-spot.ensures, c.block.ensures) at c.refuse_if.ensures in
    rw (known, number) told

pub returns-in-None : goal.returns-in-None
returns-in-None c =
    let unknown = sym c.in-None.ensures.found in
    let told = rw (c.place-place.ensures, c.at.ensures, c.item-spot.ensures, c.block.ensures) at c.refuse_if-in-None.ensures in
    rw unknown told

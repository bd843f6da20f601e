use Rattle.std.proofs.Common.{length, sym, ap, ◌∙◌}
use Rattle.std.specs.List.{position}
use Rattle.std.specs.Str.{bytes_eq}
use Rattle.sig_types.specs.Symbols.{item_names}
use Rattle.sig_flat.specs.Resolved.{block_at}
use Rattle.sig_flat.proofs.ItemLaws.{items-are}
use Rattle.sig_flat.proofs.PlacesLaws.{none-place, some-place}
use Rattle.sig_flat.proofs.lookups.item_place.Goals as goal

pub returns-in-Some : goal.returns-in-Some
returns-in-Some c =
    let same = items-are c.args.valid.now c.args.block c.requires in
    (some-place (bytes_eq c.args.name.now) (item_names (block_at c.args.valid.now.blocks c.args.block)) c.in-Some.number (ap (position (bytes_eq c.args.name.now)) (sym same) ∙ sym c.in-Some.ensures)).0

pub returns-in-None : goal.returns-in-None
returns-in-None c =
    let same = items-are c.args.valid.now c.args.block c.requires in
    c.item_count.ensures ∙ ap length same ∙ sym (none-place (bytes_eq c.args.name.now) (item_names (block_at c.args.valid.now.blocks c.args.block)) (ap (position (bytes_eq c.args.name.now)) (sym same) ∙ sym c.in-None.ensures))

use Rattle.std.proofs.Common.{length, sym, ap, ◌∙◌}
use Rattle.std.specs.Str.{bytes_eq}
use Rattle.std.proofs.lemmas.List.{length-map}
use Rattle.sig_types.specs.declared.model.Model.{Model}
use Rattle.sig_types.specs.declared.model.Block.{Block}
use Rattle.sig_types.specs.Breaches.{block_names}
use Rattle.sig_flat.proofs.PlacesLaws.{none-place, some-place}
use Rattle.sig_flat.proofs.lookups.block_place.Goals as goal

pub returns-in-Some : goal.returns-in-Some
returns-in-Some c = (some-place (bytes_eq c.args.name.now) (block_names c.args.valid.now) c.in-Some.number (sym c.in-Some.ensures)).0

pub returns-in-None : goal.returns-in-None
returns-in-None c =
    c.len.ensures ∙ ap (λ (m : Model). length m.blocks) c.model.ensures.same ∙ sym (length-map c.args.valid.now.blocks (λ (b : Block). b.name)) ∙ sym (none-place (bytes_eq c.args.name.now) (block_names c.args.valid.now) (sym c.in-None.ensures))

use Rattle.std.proofs.Common.{length, sym, ap, ◌∙◌}
use Rattle.std.specs.Str.{bytes_eq}
use Rattle.sig_types.specs.declared.model.Model.{Model}
use Rattle.sig_flat.proofs.PlacesLaws.{none-place, some-place}
use Rattle.sig_flat.proofs.lookups.mode_place.Goals as goal

pub returns-in-Some : goal.returns-in-Some
returns-in-Some c = (some-place (bytes_eq c.args.name.now) c.args.valid.now.modes c.in-Some.number (sym c.in-Some.ensures)).0

pub returns-in-None : goal.returns-in-None
returns-in-None c =
    c.len.ensures ∙ ap (λ (m : Model). length m.modes) c.model.ensures.same ∙ sym (none-place (bytes_eq c.args.name.now) c.args.valid.now.modes (sym c.in-None.ensures))

use Rattle.std.proofs.Common.{◌∙◌, sym, ap}
use Rattle.seq_inst.specs.Members.{members}
use Rattle.seq_core.specs.Mapping.{Mapping, place_of}
use Rattle.seq_core.proofs.MappingLaws.{placed-lookup}
use Rattle.seq_core.proofs.places.Places.find.Goals as goal

pub returns : goal.returns
returns c =
    let g = c.args.group.now in
    c.copied.ensures ∙ c.get.ensures.value ∙ sym (placed-lookup c.same_words_hold.ensures c.self.inside.places.entries g.0 c.self.invariant.words c.group_stands.ensures)
    ∙ ap (λ (m : Mapping). place_of m.placed (members g)) c.self.view_is

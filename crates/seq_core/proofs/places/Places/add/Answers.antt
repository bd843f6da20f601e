use Rattle.std.proofs.Common.{◌≡◌, ◌∙◌, ◌<◌, ◌++◌, ◌∷◌, [], sym, ap, subst, None, length, arith, length-append}
use Rattle.std.specs.Str.{bytes_eq}
use Rattle.std.specs.Map.{lookup}
use Rattle.indexmap.specs.IndexMap.{keys}
use Rattle.indexmap.proofs.CallerLemmas.{insert_entry-new}
use Rattle.seq_inst.specs.Members.{members}
use Rattle.seq_core.specs.Words.{AreWords}
use Rattle.seq_core.specs.Mapping.{Mapping, place_of, placed_from}
use Rattle.seq_core.proofs.WordLaws.{keys-more, words-more, inserted}
use Rattle.seq_core.proofs.MappingLaws.{placed-lookup, placed-more, length-placed}
use Rattle.seq_core.proofs.places.Places.add.Goals as goal

pub invariant_of-self : goal.invariant_of-self
invariant_of-self c =
    let g = c.args.group.now in
    let old = c.self.inside.places in
    let i = c.self.invariant in
    let left = i.room_left in
    let some : length (placed_from old.entries) < c.self.inside.room = subst (λ (m : Mapping). length m.placed < m.room) (sym c.self.view_is) c.requires.room in
    let many = length-placed old.entries in
    let none : place_of (placed_from old.entries) (members g) ≡ None = ap (λ (m : Mapping). place_of m.placed (members g)) c.self.view_is ∙ c.requires.absent in
    let absent : lookup (bytes_eq g.0) old.entries ≡ None = sym (placed-lookup c.same_words_hold.ensures old.entries g.0 i.words c.group_stands.ensures) ∙ none in
    let entries : c.insert.new.self.entries ≡ old.entries ++ (g.0, c.args.place) ∷ [] = inserted c.insert.result _ _ (c.insert.ensures.succeeds (omega arith)) c.insert.ensures.entries ∙ insert_entry-new bytes_eq old g.0 c.args.place absent in
    let long = ap length entries ∙ length-append old.entries ((g.0, c.args.place) ∷ []) in
    let s = c.insert.ensures.spare in
    record {
      words = subst AreWords (sym (keys-more old.entries c.insert.new.self.entries g.0 c.args.place entries)) (words-more (keys old) g.0 i.words c.group_stands.ensures);
      room_left = omega arith;
    }

pub returns : goal.returns
returns c =
    let g = c.args.group.now in
    let old = c.self.inside.places in
    let i = c.self.invariant in
    let left = i.room_left in
    let some : length (placed_from old.entries) < c.self.inside.room = subst (λ (m : Mapping). length m.placed < m.room) (sym c.self.view_is) c.requires.room in
    let many = length-placed old.entries in
    let none : place_of (placed_from old.entries) (members g) ≡ None = ap (λ (m : Mapping). place_of m.placed (members g)) c.self.view_is ∙ c.requires.absent in
    let absent : lookup (bytes_eq g.0) old.entries ≡ None = sym (placed-lookup c.same_words_hold.ensures old.entries g.0 i.words c.group_stands.ensures) ∙ none in
    let entries : c.insert.new.self.entries ≡ old.entries ++ (g.0, c.args.place) ∷ [] = inserted c.insert.result _ _ (c.insert.ensures.succeeds (omega arith)) c.insert.ensures.entries ∙ insert_entry-new bytes_eq old g.0 c.args.place absent in
    ap (λ l. record { room = c.self.inside.room; placed = l }) (placed-more old.entries c.insert.new.self.entries g.0 c.args.place entries)
    ∙ ap (λ (m : Mapping). record { room = m.room; placed = m.placed ++ record { group = members g; place = c.args.place } ∷ [] }) c.self.view_is

use Rattle.std.proofs.Common.{◌≡◌, ◌++◌, ◌∷◌, [], ◌∙◌, sym, ap, subst, arith, false, length, map, None, length-append}
use Rattle.std.specs.Str.{bytes_eq}
use Rattle.indexmap.specs.IndexMap.{keys}
use Rattle.indexmap.proofs.CallerLemmas.{insert_entry-new}
use Rattle.seq_theory.specs.Graph.{is_entered}
use Rattle.seq_inst.specs.Members.{members}
use Rattle.seq_core.specs.Words.{AreWords, classes_of}
use Rattle.seq_graph.specs.Numbered.{Numbered}
use Rattle.seq_graph.proofs.NumberedLaws.{absent-key, keys-more, words-more, view-more, inserted, pushed}
use Rattle.seq_graph.proofs.numbers.Numbers.add.Goals as goal

pub invariant_of-self : goal.invariant_of-self
invariant_of-self c =
    let g = c.args.group.now in
    let old = c.self.inside.bounds in
    let i = c.self.invariant in
    let r = ap (λ (v : Numbered). v.room) c.self.view_is in
    let some = c.requires.room in
    let b = i.room_for_bounds in
    let k = i.room_for_greedy in
    let n = c.self.inside.greedy.ok.0 in
    let absent : is_entered (map classes_of (keys old)) (members g) ≡ false = subst (λ (v : Numbered). is_entered v.groups (members g) ≡ false) (sym c.self.view_is) c.requires.absent in
    let entries : c.insert.new.self.entries ≡ old.entries ++ (g.0, c.args.bound) ∷ [] = inserted c.insert.result _ _ (c.insert.ensures.succeeds (omega arith)) c.insert.ensures.entries ∙ insert_entry-new bytes_eq old g.0 c.args.bound (absent-key old.entries g.0 absent) in
    let more : keys c.insert.new.self ≡ keys old ++ g.0 ∷ [] = keys-more old.entries c.insert.new.self.entries g.0 c.args.bound entries in
    let items : c.push.new.self.items ≡ c.self.inside.greedy.items ++ None ∷ [] = pushed c.push.result _ _ (c.push.ensures.succeeds (omega arith)) c.push.ensures.items in
    let l1 = ap length items ∙ length-append c.self.inside.greedy.items (None ∷ []) in
    let l2 = ap length more ∙ length-append (keys old) (g.0 ∷ []) in
    let many = i.as_many in
    let few = i.few in
    let s = c.insert.ensures.spare in
    let t = c.push.ensures.capacity in
    record {
      words = subst AreWords (sym more) (words-more (keys old) g.0 i.words c.group_stands.ensures);
      as_many = omega arith;
      few = omega arith;
      room_for_bounds = omega arith;
      room_for_greedy = omega arith;
    }

pub returns-clause-added : goal.returns-clause-added
returns-clause-added c =
    let g = c.args.group.now in
    let old = c.self.inside.bounds in
    let i = c.self.invariant in
    let r = ap (λ (v : Numbered). v.room) c.self.view_is in
    let some = c.requires.room in
    let b = i.room_for_bounds in
    let k = i.room_for_greedy in
    let n = c.self.inside.greedy.ok.0 in
    let absent : is_entered (map classes_of (keys old)) (members g) ≡ false = subst (λ (v : Numbered). is_entered v.groups (members g) ≡ false) (sym c.self.view_is) c.requires.absent in
    let entries : c.insert.new.self.entries ≡ old.entries ++ (g.0, c.args.bound) ∷ [] = inserted c.insert.result _ _ (c.insert.ensures.succeeds (omega arith)) c.insert.ensures.entries ∙ insert_entry-new bytes_eq old g.0 c.args.bound (absent-key old.entries g.0 absent) in
    let items : c.push.new.self.items ≡ c.self.inside.greedy.items ++ None ∷ [] = pushed c.push.result _ _ (c.push.ensures.succeeds (omega arith)) c.push.ensures.items in
    view-more c.self.inside.memo old.entries c.insert.new.self.entries g.0 c.args.bound c.self.inside.greedy.items c.push.new.self.items c.self.inside.room c.self.inside.held entries items c.args.self.now c.self.view_is

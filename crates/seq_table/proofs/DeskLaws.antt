-- The scribe and the index agree after one more group, and what the scribe knows of an entered group a seat knows that learnt it.
use Rattle.std.specs.Prelude.{true}
use Rattle.std.proofs.Common.{◌≡◌, ◌≢◌, ⊎_elim, ℕ, ◌+◌, ◌<◌, ◌≤◌, List, [], ◌∷◌, ◌++◌, length, sym, ap, ◌∙◌, subst, arith, length-append, Option, Some, None}
use mathlib.Core.Logic.{dite}
use native.Mathlib.Decide.{ℕ_discrete}
use Rattle.seq_theory.specs.Graph.{IsReal}
use Rattle.seq_inst.specs.declared.group.Group.{Group}
use Rattle.seq_inst.specs.Members.{members}
use Rattle.seq_core.specs.Words.{classes_of}
use Rattle.seq_core.specs.Mapping.{Mapping, Placed, place_of}
use Rattle.seq_words.specs.declared.view.Known.{Known}
use Rattle.seq_words.specs.declared.view.Role.{Role}
use Rattle.seq_words.specs.declared.view.Role.TheVariants.{Worker, Scribe, Spent}
use Rattle.seq_words.specs.declared.view.Told.{Told}
use Rattle.seq_words.specs.declared.view.View.{View}
use Rattle.seq_words.specs.Knowledge.{problem_in, known, IsKnown, HasGroup, group_at, Covers}
use Rattle.seq_words.specs.Seats.{Wording, Sitting, IsOf, HasPlaces, MayPublish}
use Rattle.seq_table.specs.declared.desk.Entered.{Entered}
use Rattle.seq_table.specs.declared.desk.Entered.TheVariants.{At, Full}
use Rattle.seq_table.specs.Agreed.{Agreed}
use Rattle.seq_table.specs.Enters.{Enters}
use Rattle.seq_table.proofs.IndexLaws.{place-kept, place-new, place-from}

abbrev count_of : Role → ℕ
count_of (Scribe n) = n
count_of Worker = 0
count_of Spent = 0

pub same_count : (v : View) (m n : ℕ) → HasPlaces m v → HasPlaces n v → m ≡ n
same_count v m n a b = ap count_of (sym a ∙ b)

none-some : (p : ℕ) (o : Option ℕ) → o ≡ None → o ≡ Some p → ⊥
none-some p o a b = let bad : ⊥ = cc in bad

module _ (w : Wording) (scribe : Sitting) (index : Mapping) (agreed : Agreed w scribe index) where
  -- a group that the index has is that of its place
  pub found : (g : List ℕ) (place : ℕ) → place_of index.placed g ≡ Some place → IsKnown place scribe.view × (group_at place scribe.view ≡ g)
  found g place e = let o = agreed.only g place e in (agreed.knows place o.0, o.1)

  -- a group that it has not is that of no place
  pub apart : (g : List ℕ) (place : ℕ) → place_of index.placed g ≡ None → place < length index.placed → group_at place scribe.view ≢ g
  apart g place none_there h e = none-some place (place_of index.placed g) none_there (sym (ap (place_of index.placed) e) ∙ agreed.has place h)

  -- it may then be published at the next place
  pub may_publish : (group : Group) (place : ℕ) → HasPlaces place scribe.view → place < w.limit → IsReal (problem_in w.told) (members group) → place_of index.placed (members group) ≡ None → MayPublish scribe.view place group
  may_publish group place count room real none_there =
      let n = same_count scribe.view place (length index.placed) count agreed.count in record {
        next = count;
        room = let l = agreed.of.limit in omega arith;
        real = subst (λ (t : Told). IsReal (problem_in t) (members group)) (sym agreed.of.told) real;
        new = λ other h. apart (members group) other none_there (omega arith);
      }

  -- where the places are drawn, all are known and none is the group's
  pub full : (g : List ℕ) (place : ℕ) → HasPlaces place scribe.view → w.limit ≤ place → place_of index.placed g ≡ None
      → (place ≡ w.limit) × ((p : ℕ) → p < w.limit → IsKnown p scribe.view × (group_at p scribe.view ≢ g))
  full g place count drawn none_there =
      let n = same_count scribe.view place (length index.placed) count agreed.count in
      let within = agreed.within in
      (omega arith, λ p h. (agreed.knows p (omega arith), apart g p none_there (omega arith)))

  -- one more group
  pub more : (after : Sitting) (group : Group) (place : ℕ) → HasPlaces place scribe.view → place < w.limit → place_of index.placed (members group) ≡ None
      → IsOf w after → HasPlaces (place + 1) after.view → HasGroup place group.0 after.view → ((other : ℕ) → other ≢ place → known after.view other ≡ known scribe.view other)
      → Agreed w after (record { room = index.room; placed = index.placed ++ record { group = members group; place = place } ∷ [] })
  more after group place count room none_there of count2 knows others =
      let x : Placed = record { group = members group; place = place } in
      let n = same_count scribe.view place (length index.placed) count agreed.count in
      let len : length (index.placed ++ x ∷ []) ≡ length index.placed + 1 = length-append index.placed (x ∷ []) in
      let old : (p : ℕ) → p < length index.placed → known after.view p ≡ known scribe.view p = λ p h. others p (λ e. omega arith) in
      let here : group_at place after.view ≡ members group = ap classes_of knows.1 in
      record {
        of = of;
        room = agreed.room;
        within = omega arith;
        count = subst (λ z. HasPlaces z after.view) (omega arith) count2;
        knows = λ p h. dite (ℕ_discrete p place)
            (λ e. subst (λ z. IsKnown z after.view) (sym e) (knows.0, ap (λ (l : List ℕ). length l) knows.1 ∙ knows.2))
            (λ ne. let b : p < length index.placed = omega arith in subst (λ (k : Known). (k.there ≡ true) × (length k.bits ≡ 8)) (sym (old p b)) (agreed.knows p b));
        has = λ p h. dite (ℕ_discrete p place)
            (λ e. subst (λ z. place_of (index.placed ++ x ∷ []) (group_at z after.view) ≡ Some z) (sym e)
            (subst (λ (g : List ℕ). place_of (index.placed ++ x ∷ []) g ≡ Some place) (sym here) (place-new index.placed x none_there)))
            (λ ne. let b : p < length index.placed = omega arith in
            subst (λ (k : Known). place_of (index.placed ++ x ∷ []) (classes_of k.bits) ≡ Some p) (sym (old p b)) (place-kept index.placed x (group_at p scribe.view) p (agreed.has p b)));
        only = λ g p e. ⊎_elim
            (λ was. let o = agreed.only g p was in (omega (arith, o.0), ap (λ (k : Known). classes_of k.bits) (old p o.0) ∙ o.1))
            (λ new. (let same = new.0 in omega arith, subst (λ z. group_at z after.view ≡ g) new.0 (here ∙ sym new.1)))
            (place-from index.placed x g p e);
      }

known-covered : (v u : View) (p : ℕ) → Covers v u → IsKnown p u → IsKnown p v × (group_at p v ≡ group_at p u)
known-covered v u p covers k =
    let c = covers p in
    let bits = c.bits k.1 in
    ((c.there k.0, ap (λ (l : List ℕ). length l) bits ∙ k.1), ap classes_of bits)

-- a seat that covers the scribe's view knows what entering tells
pub enters-covered : (w : Wording) (group : Group) (scribe seat : Sitting) (e : Entered) → Covers seat.view scribe.view → Enters w group scribe e → Enters w group seat e
enters-covered w group scribe seat (At place) covers t =
    let k = known-covered seat.view scribe.view place covers t.0 in (k.0, k.1 ∙ t.1)
enters-covered w group scribe seat (Full drawn) covers t =
    (t.0, λ p h. let u = t.1 p h in let k = known-covered seat.view scribe.view p covers u.0 in (k.0, λ e. u.1 (sym k.1 ∙ e)))

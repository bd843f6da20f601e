-- Reading the bits words of a place.
use Rattle.std.proofs.Common.{◌≡◌, ℕ, zero, suc, ◌+◌, ◌<◌, List, [], ◌∷◌, ◌++◌, length, get_or, set, refl, sym, ap, ◌∙◌, subst, arith, length-set, length-append}
use Rattle.std.proofs.lemmas.List.{get_or-set_other, set-get_or}
use Rattle.std.proofs.lemmas.Grind.{get_or-set_at}
use Rattle.std.proofs.Math.ListN.{get_or-append}
use Rattle.std.proofs.Math.Seq.{get_or-append_seam}
use mathlib.Core.Logic.{dite}
use native.Mathlib.Decide.{dec_le, ℕ_discrete}
use Rattle.seq_words.specs.declared.view.Known.{Known}
use Rattle.seq_words.specs.Knowledge.{unknown, known, IsThere}
use Rattle.seq_words.specs.Plays.{knows, knows_bits}
use Rattle.seq_words.specs.Seats.{Wording, Sitting, IsOf, ReadsBits, Reading}
use Rattle.seq_words.proofs.Core.{same_list}
use Rattle.seq_words.proofs.Views.{there_inside}
use Rattle.seq_words.proofs.Covering.{known_here, of_knows}

set_twice : {X : Type 0} (l : List X) (i : ℕ) (a b : X) → set (set l i a) i b ≡ set l i b
set_twice [] i a b = refl
set_twice (x ∷ xs) zero a b = refl
set_twice (x ∷ xs) (suc i) a b = λ k. x ∷ set_twice xs i a b k

pub reading_first : (w : Wording) (x : Sitting) (p : ℕ) (group : List ℕ) → IsOf w x → IsThere p x.view → Reading w x p x group 0
reading_first w x p group f t = record {
  of = f;
  is = λ k. record { table = x.table; view = record x.view { known = sym (set-get_or x.view.known p unknown) k } };
  there = t;
  far = omega arith;
  few = λ h. absurd (omega arith);
  reads = λ i h. absurd (omega arith);
  whole = λ _. refl;
}

set_reads : (group bits : List ℕ) (j found : ℕ) → j < length group → ((i : ℕ) → i < j → get_or group i 0 ≡ get_or bits i 0) → found ≡ get_or bits j 0 → (i : ℕ) → i < j + 1 → get_or (set group j found) i 0 ≡ get_or bits i 0
set_reads group bits j found h f e i b = dite (ℕ_discrete i j)
    (λ s. get_or-set_at group j i found 0 s h ∙ (e ∙ ap (λ k. get_or bits k 0) (sym s)))
    (λ ne. get_or-set_other group j i found 0 ne ∙ f i (omega arith))

pub reading_next : (w : Wording) (x y : Sitting) (p : ℕ) (z : Sitting) (group : List ℕ) (j found : ℕ) → j < 8 → length group ≡ 8 → Reading w x p y group j → ReadsBits p j found y z → Reading w x p z (set group j found) (j + 1)
reading_next w x y p z group j found small size r f =
    let bs = (known y.view p).bits in
    let far = r.far in
    dite (dec_le (length bs) j)
    (λ h.
    let last : j ≡ length bs = omega arith in
    let is = f.next last in
    let inside = there_inside y.view p r.there in
    let k : Known = record (known y.view p) { bits = bs ++ found ∷ [] } in
    let here = known_here y.view p k inside in
    let bits_here : bs ++ found ∷ [] ≡ (known (knows p k y.view) p).bits = sym (ap (λ (u : Known). u.bits) here) in
    let len : length (bs ++ found ∷ []) ≡ length bs + 1 = length-append bs (found ∷ []) in
    let first_inside : p < length x.view.known = let e = ap (λ (s : Sitting). length s.view.known) r.is in omega (arith, length-set x.view.known p (record (known x.view p) { bits = bs })) in
    let y_is : known y.view p ≡ record (known x.view p) { bits = bs } = ap (λ (s : Sitting). known s.view p) r.is ∙ known_here x.view p (record (known x.view p) { bits = bs }) first_inside in
    let all : Reading w x p record { table = y.table; view = knows p k y.view } (set group j found) (j + 1) = record {
      of = of_knows w y p k r.of;
      is = (λ i. record { table = (r.is i).table; view = knows p (record (y_is i) { bits = bs ++ found ∷ [] }) (r.is i).view })
          ∙ (λ i. record { table = x.table; view = record x.view { known = set_twice x.view.known p (record (known x.view p) { bits = bs }) (record (known x.view p) { bits = bs ++ found ∷ [] }) i } })
          ∙ (λ i. record { table = x.table; view = knows_bits p (bits_here i) x.view });
      there = ap (λ (u : Known). u.there) here ∙ r.there;
      far = let e = ap (λ (u : Known). length u.bits) here in omega arith;
      few = λ _. let e = ap (λ (u : Known). length u.bits) here in omega arith;
      reads = λ i b. set_reads group (bs ++ found ∷ []) j found (omega arith) (λ i' b'. r.reads i' b' ∙ sym (get_or-append bs (found ∷ []) 0 i' (omega arith)))
          (sym (subst (λ n. get_or (bs ++ found ∷ []) n 0 ≡ found) (sym last) (get_or-append_seam bs found [] 0))) i b ∙ ap (λ (u : Known). get_or u.bits i 0) (sym here);
      whole = λ e. let same = ap (λ (l : List ℕ). length l) (r.whole e) in absurd (omega arith);
    } in
    subst (λ (s : Sitting). Reading w x p s (set group j found) (j + 1)) (sym is) all)
    (λ h.
    let old : j < length bs = omega arith in
    let g = f.old old in
    let all : Reading w x p y (set group j found) (j + 1) = record {
      of = r.of;
      is = r.is;
      there = r.there;
      far = omega arith;
      few = λ _. f.few;
      reads = λ i b. set_reads group bs j found (omega arith) r.reads g.1 i b;
      whole = r.whole;
    } in
    subst (λ (s : Sitting). Reading w x p s (set group j found) (j + 1)) (sym g.0) all)

pub reading_last : (w : Wording) (x y : Sitting) (p : ℕ) (group : List ℕ) → length group ≡ 8 → Reading w x p y group 8 → group ≡ (known y.view p).bits
reading_last w x y p group size r = same_list group (known y.view p).bits 0 (let a = r.far in let b = r.few (omega arith) in omega arith) (λ i h. r.reads i (omega arith))

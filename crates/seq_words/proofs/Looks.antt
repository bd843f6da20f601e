-- The steps of a look at a published place, put together.
use Rattle.std.proofs.Common.{◌≡◌, ℕ, ◌<◌, ◌≤◌, true, List, length, refl, sym, ap, ◌∙◌, subst, arith, length-set}
use Rattle.seq_theory.specs.Graph.{IsReal}
use Rattle.seq_core.specs.Words.{classes_of}
use Rattle.seq_words.specs.declared.view.Told.{Told}
use Rattle.seq_words.specs.declared.view.Known.{Known}
use Rattle.seq_words.specs.Knowledge.{problem_in, Covers, known, IsThere, low_seen, up_seen, IsLow, IsUp, IsLowAt, IsUpAt, IsRealAt}
use Rattle.seq_words.specs.Plays.{hears, knows_bits, hears_low, hears_up}
use Rattle.seq_words.specs.Seats.{Wording, Sitting, IsOf, LookedAt, IsSeenAs, sees}
use Rattle.seq_words.proofs.Covering.{IsMore, known_here, of_knows, covers_knows}
use Rattle.seq_words.proofs.ClosedRows.{covers_trans}

module _ (x0 x1 x2 x3 x4 : Sitting) (place : ℕ) (bits : List ℕ) (low up : ℕ) (inside : place < length x0.view.known)
    (first : x1 ≡ sees x0 (hears place x0.view)) (group : x2 ≡ sees x1 (knows_bits place bits x1.view))
    (lows : x3 ≡ sees x2 (hears_low place low x2.view)) (ups : x4 ≡ sees x3 (hears_up place up x3.view)) where
  at1 : known x1.view place ≡ record (known x0.view place) { there = true }
  at1 = ap (λ (s : Sitting). known s.view place) first ∙ known_here x0.view place (record (known x0.view place) { there = true }) inside

  inside1 : place < length x1.view.known
  inside1 = let e = ap (λ (s : Sitting). length s.view.known) first in omega (arith, length-set x0.view.known place (record (known x0.view place) { there = true }))

  at2 : known x2.view place ≡ record (known x1.view place) { bits = bits }
  at2 = ap (λ (s : Sitting). known s.view place) group ∙ known_here x1.view place (record (known x1.view place) { bits = bits }) inside1

  inside2 : place < length x2.view.known
  inside2 = let e = ap (λ (s : Sitting). length s.view.known) group in let i = inside1 in omega (arith, length-set x1.view.known place (record (known x1.view place) { bits = bits }))

  at3 : known x3.view place ≡ record (known x2.view place) { low = low }
  at3 = ap (λ (s : Sitting). known s.view place) lows ∙ known_here x2.view place (record (known x2.view place) { low = low }) inside2

  bits2 : (known x2.view place).bits ≡ bits
  bits2 = ap (λ (k : Known). k.bits) at2

  bits3 : (known x3.view place).bits ≡ bits
  bits3 = ap (λ (k : Known). k.bits) at3 ∙ bits2

  told2 : x2.view.told ≡ x0.view.told
  told2 = ap (λ (s : Sitting). s.view.told) group ∙ ap (λ (s : Sitting). s.view.told) first

  told3 : x3.view.told ≡ x0.view.told
  told3 = ap (λ (s : Sitting). s.view.told) lows ∙ told2

  pub looked : length bits ≡ 8 → (length (known x1.view place).bits ≡ 8 → bits ≡ (known x1.view place).bits)
      → low_seen place x2.view ≤ low → IsLowAt place x2.view low → up ≤ up_seen place x3.view → IsUpAt place x3.view up → LookedAt place x0 x4 (record { 0 = bits }) low up
  looked whole same low_kept low_right up_kept up_right =
      let size : (b : List ℕ) → b ≡ bits → length b ≡ 8 = λ b e. ap (λ (l : List ℕ). length l) e ∙ whole in record {
        learns = ups ∙ ap (λ (s : Sitting). sees s (hears_up place up s.view)) (lows ∙ ap (λ (s : Sitting). sees s (hears_low place low s.view)) (group ∙ ap (λ (s : Sitting). sees s (knows_bits place bits s.view)) first));
        whole = whole;
        same = λ e. let b = ap (λ (k : Known). k.bits) at1 in same (ap (λ (l : List ℕ). length l) b ∙ e) ∙ b;
        low_kept = let a = ap (λ (k : Known). k.low) at1 in let b = ap (λ (k : Known). k.low) at2 in omega arith;
        up_kept = let a = ap (λ (k : Known). k.up) at1 in let b = ap (λ (k : Known). k.up) at2 in let d = ap (λ (k : Known). k.up) at3 in omega arith;
        low_right = subst (λ (t : Told). IsLow t bits low) told2 (subst (λ (b : List ℕ). IsLow x2.view.told b low) bits2 (low_right (size (known x2.view place).bits bits2)));
        up_right = subst (λ (t : Told). IsUp t bits up) told3 (subst (λ (b : List ℕ). IsUp x3.view.told b up) bits3 (up_right (size (known x3.view place).bits bits3)));
      }

  pub looked-of : (w : Wording) → IsOf w x0 → IsOf w x4
  looked-of w f =
      let f1 = subst (IsOf w) (sym first) (of_knows w x0 place (record (known x0.view place) { there = true }) f) in
      let f2 = subst (IsOf w) (sym group) (of_knows w x1 place (record (known x1.view place) { bits = bits }) f1) in
      let f3 = subst (IsOf w) (sym lows) (of_knows w x2 place (record (known x2.view place) { low = low }) f2) in
      subst (IsOf w) (sym ups) (of_knows w x3 place (record (known x3.view place) { up = up }) f3)

  inside3 : place < length x3.view.known
  inside3 = let e = ap (λ (s : Sitting). length s.view.known) lows in let i = inside2 in omega (arith, length-set x2.view.known place (record (known x2.view place) { low = low }))

  at4 : known x4.view place ≡ record (known x3.view place) { up = up }
  at4 = ap (λ (s : Sitting). known s.view place) ups ∙ known_here x3.view place (record (known x3.view place) { up = up }) inside3

  -- the place is known as it was read
  pub looked-seen : length bits ≡ 8 → IsSeenAs place x4.view (record { 0 = bits }) low up
  looked-seen whole =
      let bits4 : (known x4.view place).bits ≡ bits = ap (λ (k : Known). k.bits) at4 ∙ bits3 in
      let there4 : IsThere place x4.view = ap (λ (k : Known). k.there) at4 ∙ (ap (λ (k : Known). k.there) at3 ∙ (ap (λ (k : Known). k.there) at2 ∙ ap (λ (k : Known). k.there) at1)) in record {
        whole = (there4, ap (λ (l : List ℕ). length l) bits4 ∙ whole);
        bits = bits4;
        classes = ap classes_of bits4;
        low_is = ap (λ (k : Known). k.low) at4 ∙ ap (λ (k : Known). k.low) at3;
        up_is = ap (λ (k : Known). k.up) at4;
      }

  -- its group is real
  pub looked-real : length bits ≡ 8 → IsRealAt place x3.view → IsReal (problem_in x0.view.told) (classes_of bits)
  looked-real whole real =
      subst (λ (t : Told). IsReal (problem_in t) (classes_of bits)) told3
      (subst (λ (b : List ℕ). IsReal (problem_in x3.view.told) (classes_of b)) bits3 (real (ap (λ (l : List ℕ). length l) bits3 ∙ whole)))

  -- the view that comes back knows all that was known
  pub looked-covers : (length (known x1.view place).bits ≡ 8 → bits ≡ (known x1.view place).bits) → low_seen place x2.view ≤ low → up ≤ up_seen place x3.view → Covers x4.view x0.view
  looked-covers same low_kept up_kept =
      let more1 : IsMore (known x0.view place) (record (known x0.view place) { there = true }) = record { there = λ _. refl; bits = λ _. refl; low = omega arith; up = omega arith } in
      let c1 = subst (λ (s : Sitting). Covers s.view x0.view) (sym first) (covers_knows x0.view place (record (known x0.view place) { there = true }) inside more1) in
      let more2 : IsMore (known x1.view place) (record (known x1.view place) { bits = bits }) = record { there = λ t. t; bits = same; low = omega arith; up = omega arith } in
      let c2 = subst (λ (s : Sitting). Covers s.view x1.view) (sym group) (covers_knows x1.view place (record (known x1.view place) { bits = bits }) inside1 more2) in
      let more3 : IsMore (known x2.view place) (record (known x2.view place) { low = low }) = record { there = λ t. t; bits = λ _. refl; low = low_kept; up = omega arith } in
      let c3 = subst (λ (s : Sitting). Covers s.view x2.view) (sym lows) (covers_knows x2.view place (record (known x2.view place) { low = low }) inside2 more3) in
      let more4 : IsMore (known x3.view place) (record (known x3.view place) { up = up }) = record { there = λ t. t; bits = λ _. refl; low = omega arith; up = up_kept } in
      let c4 = subst (λ (s : Sitting). Covers s.view x3.view) (sym ups) (covers_knows x3.view place (record (known x3.view place) { up = up }) inside3 more4) in
      covers_trans x4.view x3.view x0.view c4 (covers_trans x3.view x2.view x0.view c3 (covers_trans x2.view x1.view x0.view c2 c1))

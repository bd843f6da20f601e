-- A walk over a group: it passes words without a class, and takes the lowest bit of the first word that has one. A number
-- less one has the bits of the number above its lowest 1, and not this one; so what both have is the number without it.
use Rattle.std.proofs.Common.{◌≡◌, ℕ, zero, suc, ◌+◌, ◌-◌, ◌*◌, ◌/◌, ◌^◌, ◌<◌, ◌≤◌, get_or, refl, sym, ap, ◌∙◌, arith, inl, inr}
use Rattle.std.specs.Prelude.{false, bit_and, Option, Some, None, IfSome, IfNone}
use Rattle.std.specs.Int.{bit_at, trailing_zeros, w64}
use Rattle.std.proofs.lemmas.Bool.{cases_lt, eq-eqb, ne_eqb}
use Rattle.std.proofs.lemmas.Nat.Bits.{bit_at-zero, bit_at_lowest, bit_at-suc, bit_at_and, bit_at-trailing_zeros}
use Rattle.seq_inst.specs.declared.group.Group.{Group}
use Rattle.seq_inst.specs.declared.ahead.Ahead.{Ahead}
use Rattle.seq_inst.specs.Members.{has_class, HasNoneFrom}
use Rattle.seq_inst.specs.Walks.{IsAhead, IsNext, IsAheadOf}
use Rattle.seq_inst.proofs.WordLaws.{place}
use Rattle.seq_inst.proofs.FirstLaws.{first-after, IsFound}

-- ---- a number less one ----

-- of a number whose lowest 1 is at a place
record IsLessOne (t n : ℕ) : Type 0 where
  at : bit_at (n - 1) t ≡ 0
  above : (i : ℕ) → t < i → bit_at (n - 1) i ≡ bit_at n i

less_one : (t n : ℕ) → bit_at n t ≡ 1 → ((i : ℕ) → i < t → bit_at n i ≡ 0) → IsLessOne t n
less_one zero n set clear =
    let odd = bit_at_lowest n in
    let low = bit_at_lowest (n - 1) in
    let half : (n - 1) / 2 ≡ n / 2 = omega arith in
    record {
      at = omega arith;
      above = λ i lt. over i lt half;
    }
  where
    over : (i : ℕ) → 0 < i → (n - 1) / 2 ≡ n / 2 → bit_at (n - 1) i ≡ bit_at n i
    over zero lt half = absurd (let bad : ⊥ = omega arith in bad)
    over (suc i) lt half = bit_at-suc (n - 1) i ∙ ap (λ m. bit_at m i) half ∙ sym (bit_at-suc n i)
less_one (suc t) n set clear =
    let even = bit_at_lowest n in
    let first = clear 0 (omega arith) in
    let some : 1 ≤ n / 2 = (elim (cases_lt 0 (n / 2)) [
      | inl lt ↦ lt
      | inr le ↦ absurd (let e : n / 2 ≡ 0 = omega arith in let z = ap (λ m. bit_at m t) e in let y = bit_at-zero t in let x = bit_at-suc n t in let bad : ⊥ = omega arith in bad)
    ]) in
    let half : (n - 1) / 2 ≡ n / 2 - 1 = omega arith in
    let rest = less_one t (n / 2) (sym (bit_at-suc n t) ∙ set) (λ i lt. sym (bit_at-suc n i) ∙ clear (suc i) (omega arith)) in
    record {
      at = bit_at-suc (n - 1) t ∙ ap (λ m. bit_at m t) half ∙ rest.at;
      above = λ i lt. over i lt half rest;
    }
  where
    over : (i : ℕ) → suc t < i → (n - 1) / 2 ≡ n / 2 - 1 → IsLessOne t (n / 2) → bit_at (n - 1) i ≡ bit_at n i
    over zero lt half rest = absurd (let bad : ⊥ = omega arith in bad)
    over (suc i) lt half rest = bit_at-suc (n - 1) i ∙ ap (λ m. bit_at m i) half ∙ rest.above i (omega arith) ∙ sym (bit_at-suc n i)

-- ---- the walk ----

pub next-is_found : (g : Group) (a : Ahead) (from : ℕ) (next : Option ℕ) → IfSome next (IsNext g a from) → IfNone next (HasNoneFrom g from) → IsFound g from next
next-is_found g a from None some none = none
next-is_found g a from (Some c) some none = some.first

pub next-is_ahead : (g : Group) (a : Ahead) (from : ℕ) (next : Option ℕ) → IfSome next (IsNext g a from) → IsAheadOf g a next
next-is_ahead g a from None some = tt
next-is_ahead g a from (Some c) some = some.after

-- the walk is ahead of words without a class
pub record IsPassed (g : Group) (a : Ahead) (from : ℕ) : Type 0 where
  pub at : ℕ
  pub from_there : from ≤ at
  pub none : (k : ℕ) → from ≤ k → k < at → has_class g k ≡ false
  pub ahead : IsAhead g a at

pub passed-none : (g : Group) (a : Ahead) (from : ℕ) → IsAhead g a from → IsPassed g a from
passed-none g a from ahead = record { at = from; from_there = omega arith; none = λ k ge lt. absurd (let bad : ⊥ = omega arith in bad); ahead = ahead }

-- a word without a bit has no class ahead
none-left : (g : Group) (a : Ahead) (from : ℕ) → IsPassed g a from → a.word ≡ 0 → (k : ℕ) → from ≤ k → k < 64 * (a.place + 1) → has_class g k ≡ false
none-left g a from p clear k ge lt = elim (cases_lt k p.at) [
  | inl before ↦ p.none k ge before
  | inr after ↦
      (let low = p.ahead.from_word in
      let j : ℕ = k - 64 * a.place in
      let bit : bit_at (get_or g.0 a.place 0) j ≡ 0 = sym (p.ahead.ahead j (omega arith) (omega arith)) ∙ ap (λ n. bit_at n j) clear ∙ bit_at-zero j in
      ap (has_class g) (let e : k ≡ 64 * a.place + j = omega arith in e) ∙ place g a.place j (omega arith) ∙ ne_eqb (bit_at (get_or g.0 a.place 0) j) 1 (λ e. let bad : ⊥ = omega arith in bad))
]

pub passed-more : (g : Group) (a : Ahead) (from : ℕ) → IsPassed g a from → a.word ≡ 0 → a.place < 7 → IsPassed g (record { place = a.place + 1; word = get_or g.0 (a.place + 1) 0 }) from
passed-more g a from p clear lt =
    let low = p.ahead.to_word in
    let start = p.from_there in
    record {
      at = 64 * (a.place + 1);
      from_there = omega arith;
      none = none-left g a from p clear;
      ahead = record {
        there = omega arith;
        from_word = omega arith;
        to_word = omega arith;
        below = λ k l u. absurd (let bad : ⊥ = omega arith in bad);
        ahead = λ k l u. refl;
      };
    }

pub passed-all : (g : Group) (a : Ahead) (from : ℕ) → IsPassed g a from → a.word ≡ 0 → 7 ≤ a.place → HasNoneFrom g from
passed-all g a from p clear last k ge lt = none-left g a from p clear k ge (omega arith)

pub next-found : (g : Group) (a : Ahead) (from : ℕ) → IsPassed g a from → 0 < a.word → a.word < 2 ^ 64 → IsNext g (record { place = a.place; word = bit_and a.word (a.word - 1) }) from (64 * a.place + trailing_zeros w64 a.word)
next-found g a from p some small =
    let t : ℕ = trailing_zeros w64 a.word in
    let z = bit_at-trailing_zeros w64 a.word some small in
    let inside : t < 64 = z.0 in
    let less = less_one t a.word z.1 z.2 in
    let there = p.ahead.there in
    let low = p.ahead.from_word in
    let reached : p.at ≤ 64 * a.place + t = (elim (cases_lt (64 * a.place + t) p.at) [
      | inl lt ↦ absurd (let clear = p.ahead.below t inside lt in let set = z.1 in let bad : ⊥ = omega arith in bad)
      | inr ge ↦ ge
    ]) in
    let bit : bit_at (get_or g.0 a.place 0) t ≡ 1 = sym (p.ahead.ahead t inside reached) ∙ z.1 in
    record {
      first = first-after g from p.at (64 * a.place + t) p.from_there p.none (record {
        from_there = reached;
        in_range = omega arith;
        in_group = place g a.place t inside ∙ eq-eqb (bit_at (get_or g.0 a.place 0) t) 1 bit;
        none_before = λ k ge lt.
            let j : ℕ = k - 64 * a.place in
            let clear : bit_at (get_or g.0 a.place 0) j ≡ 0 = sym (p.ahead.ahead j (omega arith) (omega arith)) ∙ z.2 j (omega arith) in
            ap (has_class g) (let e : k ≡ 64 * a.place + j = omega arith in e) ∙ place g a.place j (omega arith) ∙ ne_eqb (bit_at (get_or g.0 a.place 0) j) 1 (λ e. let bad : ⊥ = omega arith in bad);
      });
      after = record {
        there = there;
        from_word = omega arith;
        to_word = omega arith;
        below = λ k l u.
            let both = bit_at_and a.word (a.word - 1) k in
            elim (cases_lt k t) [
              | inl lt ↦ (let clear = z.2 k lt in omega arith)
              | inr ge ↦ (let e : k ≡ t = omega arith in let same = ap (bit_at (a.word - 1)) e in let clear = less.at in omega arith)
            ];
        ahead = λ k l u.
            let both = bit_at_and a.word (a.word - 1) k in
            let same = less.above k (omega arith) in
            let whole = p.ahead.ahead k l (omega arith) in
            omega arith;
      };
    }

-- The first class of a group from a number on, in a word and in the group.
use Rattle.std.proofs.Common.{◌≡◌, ℕ, ◌+◌, ◌-◌, ◌*◌, ◌/◌, ◌%◌, ◌^◌, ◌<◌, ◌≤◌, [], ◌∷◌, ◌++◌, get_or, sym, ap, ◌∙◌, arith, inl, inr}
use Rattle.std.specs.Prelude.{true, false, Option, Some, None, IfSome, IfNone}
use Rattle.std.specs.Int.{bit_at, trailing_zeros, w64}
use Rattle.std.proofs.lemmas.Bool.{cases_lt, eq-eqb, ne_eqb}
use Rattle.std.proofs.lemmas.Nat.{pow-add}
use Rattle.std.proofs.lemmas.Nat.Bits.{bit_at-zero, bit_at_above, bit_at-trailing_zeros}
use native.Mathlib.Nat.{div-div-eq-div-mul}
use Rattle.seq_inst.specs.declared.group.Group.{Group}
use Rattle.seq_inst.specs.Members.{has_class, members_below, IsFirstFrom, HasNoneFrom, reached, IsClass, IsStep}
use Rattle.seq_theory.proofs.BelowLaws.{passing-skip}
use Rattle.seq_inst.proofs.MembersLaws.{members_below-zero, members_below-in}
use Rattle.seq_inst.proofs.WordLaws.{place}

-- a bit of a word that was shifted down
bit-shifted : (n s j : ℕ) → bit_at (n / 2 ^ s) j ≡ bit_at n (s + j)
bit-shifted n s j = ap (λ m. m % 2) (div-div-eq-div-mul n (2 ^ s) (2 ^ j) ∙ ap (λ m. n / m) (sym (pow-add 2 s j)))

-- the class of the lowest bit of a word, shifted down to where the search begins
pub first-in_word : (g : Group) (i s from : ℕ) → i < 8 → s < 64 → from ≡ 64 * i + s → get_or g.0 i 0 < 2 ^ 64 → get_or g.0 i 0 / 2 ^ s < 2 ^ 64 → 0 < get_or g.0 i 0 / 2 ^ s → IsFirstFrom g from (from + trailing_zeros w64 (get_or g.0 i 0 / 2 ^ s))
first-in_word g i s from few low is below small some =
    let word = get_or g.0 i 0 in
    let t = trailing_zeros w64 (word / 2 ^ s) in
    let z = bit_at-trailing_zeros w64 (word / 2 ^ s) some small in
    let set : bit_at word (s + t) ≡ 1 = sym (bit-shifted word s t) ∙ z.1 in
    let inside : s + t < 64 = (elim (cases_lt (s + t) 64) [
      | inl lt ↦ lt
      | inr ge ↦ absurd (let clear = bit_at_above word 64 (s + t) below ge in let bad : ⊥ = omega arith in bad)
    ]) in
    record {
      from_there = omega arith;
      in_range = omega arith;
      in_group = ap (has_class g) (let e : from + t ≡ 64 * i + (s + t) = omega arith in e) ∙ place g i (s + t) inside ∙ eq-eqb (bit_at word (s + t)) 1 set;
      none_before = λ k ge lt.
          let j = k - from in
          let clear : bit_at word (s + j) ≡ 0 = sym (bit-shifted word s j) ∙ z.2 j (omega arith) in
          ap (has_class g) (let e : k ≡ 64 * i + (s + j) = omega arith in e) ∙ place g i (s + j) (omega arith) ∙ ne_eqb (bit_at word (s + j)) 1 (λ e. let bad : ⊥ = omega arith in bad);
    }

-- where the shifted word is 0, the group has no class in it from there on
pub none-in_word : (g : Group) (i s from : ℕ) → s < 64 → from ≡ 64 * i + s → get_or g.0 i 0 / 2 ^ s ≡ 0 → (k : ℕ) → from ≤ k → k < 64 * (i + 1) → has_class g k ≡ false
none-in_word g i s from low is zero_word k ge lt =
    let word = get_or g.0 i 0 in
    let j = k - from in
    let clear : bit_at word (s + j) ≡ 0 = sym (bit-shifted word s j) ∙ ap (λ n. bit_at n j) zero_word ∙ bit_at-zero j in
    ap (has_class g) (let e : k ≡ 64 * i + (s + j) = omega arith in e) ∙ place g i (s + j) (omega arith) ∙ ne_eqb (bit_at word (s + j)) 1 (λ e. let bad : ⊥ = omega arith in bad)

-- the search goes on after words without a class
pub first-after : (g : Group) (from later c : ℕ) → from ≤ later → ((k : ℕ) → from ≤ k → k < later → has_class g k ≡ false) → IsFirstFrom g later c → IsFirstFrom g from c
first-after g from later c le none first =
    let ge = first.from_there in
    record {
      from_there = omega arith;
      in_range = first.in_range;
      in_group = first.in_group;
      none_before = λ k l u. elim (cases_lt k later) [
        | inl lt ↦ none k l lt
        | inr ge' ↦ first.none_before k ge' u
      ];
    }

-- up to a class that is the first from a number on, there is no more than up to that number
members_below-skip : (g : Group) (from to : ℕ) → from ≤ to → ((k : ℕ) → from ≤ k → k < to → has_class g k ≡ false) → members_below g to ≡ members_below g from
members_below-skip g from to le none = passing-skip (has_class g) from to le none

-- the outcome of a search, for such a loop
abbrev pub IsFound : Group → ℕ → Option ℕ → Type 0
IsFound g from None = HasNoneFrom g from
IsFound g from (Some c) = IsFirstFrom g from c

pub found-class : (g : Group) (from : ℕ) (next : Option ℕ) → IsFound g from next → IsClass g next
found-class g from None f = tt
found-class g from (Some c) f = (f.in_range, f.in_group)

pub found-members : (g : Group) (from : ℕ) (next : Option ℕ) → from ≤ 512 → IsFound g from next → members_below g (reached next) ≡ members_below g from
found-members g from None le f = members_below-skip g from 512 le f
found-members g from (Some c) le f = members_below-skip g from c f.from_there f.none_before

pub found-reached : (g : Group) (from : ℕ) (next : Option ℕ) → from ≤ 512 → IsFound g from next → from ≤ reached next
found-reached g from None le f = le
found-reached g from (Some c) le f = f.from_there

pub found-by : (g : Group) (from : ℕ) (next : Option ℕ) → IfSome next (IsFirstFrom g from) → IfNone next (HasNoneFrom g from) → IsFound g from next
found-by g from None some none = none
found-by g from (Some c) some none = some

-- a loop over the classes of a group: its start, and one class more
pub first-members : (g : Group) (next : Option ℕ) → IsFound g 0 next → members_below g (reached next) ≡ []
first-members g next f = found-members g 0 next (omega arith) f ∙ members_below-zero g

pub next-members : (g : Group) (c : ℕ) (next : Option ℕ) → c < 512 → has_class g c ≡ true → IsFound g (c + 1) next → members_below g (reached next) ≡ members_below g c ++ c ∷ []
next-members g c next lt has f = found-members g (c + 1) next (omega arith) f ∙ members_below-in g c has

-- so a walk goes on a step
pub found-step : (g : Group) (from : ℕ) (next : Option ℕ) → from ≤ 512 → IsFound g from next → IsStep g from next
found-step g from next le f = record { class = found-class g from next f; on = found-reached g from next le f; before = found-members g from next le f }

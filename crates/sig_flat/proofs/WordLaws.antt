-- The word of a set of names, name by name, and what its bits say.
use Rattle.std.proofs.Common.{Bool, true, false, inl, inr, ◌≡◌, ℕ, ◌*◌, ◌^◌, ◌%◌, ◌<◌, ◌≤◌, List, [], ◌∷◌, length, refl, sym, ap, ◌∙◌, arith, bit_or}
use Rattle.std.specs.Prelude.{nat_lt, nat_eq, ◌&&◌, ◌||◌}
use Rattle.std.specs.List.{list_any}
use Rattle.std.specs.Int.{bit_at}
use Rattle.std.proofs.Math.Bool.{or-true, or-false, and-false}
use Rattle.std.proofs.lemmas.Nat.Bits.{bit_at_or, bit_at-lt, bit_at-zero, bit_at-pow_same, bit_at-pow_other}
use Rattle.std.proofs.lemmas.Bool.{cond_below, cond_above, cond-true, cond-false, lt-ltb, le-ltb, cases_lt}
use Rattle.std.proofs.lemmas.Bool.Decides.{eqb_tells, nat_tests}
use Rattle.sig_types.specs.Sets.{has_bit}
use Rattle.sig_flat.specs.Flats.{IsSetOf}
use Rattle.std.proofs.lemmas.Nat.{one_shl}
use Rattle.sig_flat.specs.Words.{place_among, with_name, with_names, word_of}

pub with-there : (all : List (List ℕ)) (word : ℕ) (name : List ℕ) (p n w : ℕ) → p ≡ place_among all name → n ≡ length all → p < n → n ≤ w → bit_or word (1 * 2 ^ p % 2 ^ w) ≡ with_name all word name
unfolding with_name
with-there all word name p n w e l lt le =
    ap (bit_or word) (one_shl p w (omega arith)) ∙ ap (λ k. bit_or word (2 ^ k)) e
    ∙ cond_below (place_among all name) (length all) (bit_or word (2 ^ place_among all name)) word (omega arith)

pub with-unknown : (all : List (List ℕ)) (word : ℕ) (name : List ℕ) (p n : ℕ) → p ≡ place_among all name → n ≡ length all → n ≤ p → word ≡ with_name all word name
unfolding with_name
with-unknown all word name p n e l le =
    cond_above (place_among all name) (length all) (bit_or word (2 ^ place_among all name)) word word (omega arith) refl

-- what the bits of the word say

bit-or : (w p k : ℕ) → has_bit (bit_or w (2 ^ p)) k ≡ (has_bit w k || nat_eq p k)
bit-or w p k = elim (eqb_tells p k) [
  | inl same ↦
      (let one : bit_at (2 ^ p) k ≡ 1 = ap (bit_at (2 ^ p)) (sym same.1) ∙ bit_at-pow_same p in
      let small = bit_at-lt w k in
      let or = bit_at_or w (2 ^ p) k in
      let is_one : bit_at (bit_or w (2 ^ p)) k ≡ 1 = omega arith in
      ap (λ b. nat_eq b 1) is_one ∙ sym (or-true (has_bit w k)) ∙ ap (λ b. has_bit w k || b) (sym same.0))
  | inr apart ↦
      (let none : bit_at (2 ^ p) k ≡ 0 = bit_at-pow_other p k (λ e. apart.1 (sym e)) in
      let or = bit_at_or w (2 ^ p) k in
      let kept : bit_at (bit_or w (2 ^ p)) k ≡ bit_at w k = omega arith in
      ap (λ b. nat_eq b 1) kept ∙ sym (or-false (has_bit w k)) ∙ ap (λ b. has_bit w k || b) (sym apart.0))
]

name-bit : (all : List (List ℕ)) (w : ℕ) (name : List ℕ) (k : ℕ) → has_bit (with_name all w name) k ≡ (has_bit w k || (nat_lt k (length all) && nat_eq (place_among all name) k))
unfolding with_name
name-bit all w name k = elim (cases_lt (place_among all name) (length all)) [
  | inl there ↦
      ap (λ n. has_bit n k) (cond-true (nat_lt (place_among all name) (length all)) (bit_or w (2 ^ place_among all name)) w (lt-ltb (place_among all name) (length all) there))
      ∙ bit-or w (place_among all name) k ∙ ap (λ b. has_bit w k || b) (within (place_among all name) (length all) there)
  | inr beyond ↦
      ap (λ n. has_bit n k) (cond-false (nat_lt (place_among all name) (length all)) (bit_or w (2 ^ place_among all name)) w (le-ltb (place_among all name) (length all) beyond))
      ∙ sym (or-false (has_bit w k)) ∙ ap (λ b. has_bit w k || b) (outside (place_among all name) (length all) beyond)
]
  where
    within : (p n : ℕ) → p < n → nat_eq p k ≡ (nat_lt k n && nat_eq p k)
    within p n lt = grind (arith, nat_tests)

    outside : (p n : ℕ) → n ≤ p → false ≡ (nat_lt k n && nat_eq p k)
    outside p n le = grind (arith, nat_tests)

names-bits : (all : List (List ℕ)) (w : ℕ) (names : List (List ℕ)) (k : ℕ) → has_bit (with_names all w names) k ≡ (has_bit w k || (nat_lt k (length all) && list_any (λ n. nat_eq (place_among all n) k) names))
names-bits all w [] k = sym (ap (λ b. has_bit w k || b) (and-false (nat_lt k (length all))) ∙ or-false (has_bit w k))
names-bits all w (name ∷ names) k =
    names-bits all (with_name all w name) names k
    ∙ ap (λ b. b || (nat_lt k (length all) && list_any (λ n. nat_eq (place_among all n) k) names)) (name-bit all w name k)
    ∙ regroup (has_bit w k) (nat_lt k (length all)) (nat_eq (place_among all name) k) (list_any (λ n. nat_eq (place_among all n) k) names)
  where
    regroup : (h l e r : Bool) → ((h || (l && e)) || (l && r)) ≡ (h || (l && (e || r)))
    regroup true l e r = refl
    regroup false true e r = refl
    regroup false false e r = refl

-- the word of some names is their set
pub word-is-set : (all names : List (List ℕ)) → IsSetOf all names (word_of all names)
unfolding word_of
word-is-set all names = λ k. names-bits all 0 names k ∙ ap (λ b. b || (nat_lt k (length all) && list_any (λ n. nat_eq (place_among all n) k) names)) (ap (λ b. nat_eq b 1) (bit_at-zero k))

pub nothing-is-set : (all : List (List ℕ)) → IsSetOf all [] 0
nothing-is-set all = λ k. ap (λ b. nat_eq b 1) (bit_at-zero k) ∙ sym (and-false (nat_lt k (length all)))

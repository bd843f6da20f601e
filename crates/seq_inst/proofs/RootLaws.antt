-- The group of all classes, bit by bit.
use Rattle.std.proofs.Common.{◌≡◌, ◌≢◌, ℕ, zero, suc, ◌+◌, ◌*◌, ◌/◌, ◌%◌, ◌^◌, ◌<◌, ◌≤◌, List, ◌∷◌, length, get_or, set, refl, sym, ap, ◌∙◌, arith, inl, inr, get_or-set_same, get_or-set_other, length-set}
use Rattle.std.specs.Prelude.{Bool, filter, nat_eq, nat_lt, bit_or}
use Rattle.std.specs.Int.{bit_at, w64}
use Rattle.std.proofs.lemmas.Bool.{cases_lt, cases_eq, lt-ltb, le-ltb}
use Rattle.std.proofs.lemmas.Nat.Bits.{bit_at_set_same, bit_at_set_other, bit_at-zero}
use Rattle.seq_theory.specs.Problem.{count_up, IsIn}
use Rattle.seq_theory.specs.Below.{passing_below}
pub use Rattle.seq_theory.proofs.BelowLaws.{within-all}
use Rattle.seq_theory.proofs.LeastLaws.{count_up-IsIn}
use Rattle.seq_inst.specs.Members.{has_class, members}

-- the words have exactly the classes below n
pub record AreBelow (words : List ℕ) (n : ℕ) : Type 0 where
  pub long : length words ≡ 8
  pub each : (c : ℕ) → c < 512 → has_class (record { 0 = words }) c ≡ nat_lt c n

pub below-none : (words : List ℕ) → length words ≡ 8 → ((k : ℕ) → get_or words k 0 ≡ 0) → AreBelow words 0
below-none words long zeros = record { long = long; each = λ c lt. ap (λ w. nat_eq (bit_at w (c % 64)) 1) (zeros (c / 64)) ∙ ap (λ b. nat_eq b 1) (bit_at-zero (c % 64)) ∙ sym (le-ltb c 0 (omega arith)) }

same_place : (c n : ℕ) → c / 64 ≡ n / 64 → c % 64 ≡ n % 64 → c ≡ n
same_place c n e1 e2 = omega arith

lt-next : (c n : ℕ) → c ≢ n → nat_lt c (n + 1) ≡ nat_lt c n
lt-next c n ne = elim (cases_lt c n) [
  | inl lt ↦ lt-ltb c (n + 1) (omega arith) ∙ sym (lt-ltb c n lt)
  | inr ge ↦ le-ltb c (n + 1) (omega arith) ∙ sym (le-ltb c n ge)
]

pub below-more : (words : List ℕ) (n : ℕ) → n < 512 → AreBelow words n → AreBelow (set words (n / 64) (bit_or (get_or words (n / 64) 0) (1 * 2 ^ (n % 64) % 18446744073709551616))) (n + 1)
below-more words n lt below =
    let long = below.long in
    let in_range : n / 64 < length words = omega arith in
    let low : n % 64 < 64 = omega arith in
    let word = bit_or (get_or words (n / 64) 0) (1 * 2 ^ (n % 64) % 18446744073709551616) in
    record {
      long = length-set words (n / 64) word ∙ below.long;
      each = λ c ltc. elim (cases_eq (c / 64) (n / 64)) [
        | inr other ↦
            (let ne : c ≢ n = (λ s. other (ap (λ x. x / 64) s)) in
            ap (λ w. nat_eq (bit_at w (c % 64)) 1) (get_or-set_other words (n / 64) (c / 64) word 0 other) ∙ below.each c ltc ∙ sym (lt-next c n ne))
        | inl same ↦
            (let at : get_or (set words (n / 64) word) (c / 64) 0 ≡ word = ap (λ k. get_or (set words (n / 64) word) k 0) same ∙ get_or-set_same words (n / 64) word 0 in_range in
            ap (λ w. nat_eq (bit_at w (c % 64)) 1) at ∙ elim (cases_eq (c % 64) (n % 64)) [
              | inl e ↦
                  (let is : c ≡ n = same_place c n same e in
                  ap (λ k. nat_eq (bit_at word k) 1) e
                  ∙ ap (λ b. nat_eq b 1) (bit_at_set_same w64 (get_or words (n / 64) 0) (n % 64) low)
                  ∙ sym (lt-ltb c (n + 1) (omega arith)))
              | inr ne ↦
                  (let differ : c ≢ n = (λ s. ne (ap (λ x. x % 64) s)) in
                  ap (λ b. nat_eq b 1) (bit_at_set_other w64 (get_or words (n / 64) 0) (n % 64) low (c % 64) ne)
                  ∙ ap (λ k. nat_eq (bit_at (get_or words k 0) (c % 64)) 1) (sym same)
                  ∙ below.each c ltc ∙ sym (lt-next c n differ))
            ])
      ];
    }

filter-lt : (f : ℕ → Bool) (from k m : ℕ) → k ≤ m → ((c : ℕ) → IsIn c (count_up from m) → f c ≡ nat_lt c (from + k)) → filter f (count_up from m) ≡ count_up from k
filter-lt f from zero zero le h = refl
filter-lt f from (suc k) zero le h = absurd (let bad : ⊥ = omega arith in bad)
filter-lt f from zero (suc m) le h =
    rw (h from (inl refl) ∙ le-ltb from (from + 0) (omega arith)) (filter-lt f (suc from) zero m (omega arith)
    (λ c i. let w = count_up-IsIn c (suc from) m i in h c (inr i) ∙ le-ltb c (from + 0) (omega arith) ∙ sym (le-ltb c (suc from + 0) (omega arith))))
filter-lt f from (suc k) (suc m) le h =
    rw (h from (inl refl) ∙ lt-ltb from (from + suc k) (omega arith)) (ap (λ l. from ∷ l) (filter-lt f (suc from) k m (omega arith)
    (λ c i. h c (inr i) ∙ ap (nat_lt c) (let e : from + suc k ≡ suc from + k = omega arith in e))))

pub members-from_below : (words : List ℕ) (n : ℕ) → n ≤ 512 → AreBelow words n → members (record { 0 = words }) ≡ count_up 0 n
unfolding passing_below
members-from_below words n le below = filter-lt (has_class (record { 0 = words })) 0 n 512 le
    (λ c i. let w = count_up-IsIn c 0 512 i in below.each c (omega arith) ∙ ap (nat_lt c) (let e : n ≡ 0 + n = omega arith in e))

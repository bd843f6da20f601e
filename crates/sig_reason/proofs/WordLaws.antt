-- A row of four words is known test by test: what is computed word by word is said bit by bit, and a word that isn't zero has a bit.
use Rattle.std.proofs.Common.{◌≡◌, ℕ, zero, suc, ◌+◌, ◌-◌, ◌*◌, ◌/◌, ◌%◌, ◌^◌, ◌<◌, max, min, List, [], ◌∷◌, get_or, bit_or, bit_and, refl, sym, ap, ◌∙◌, arith, inl, inr, replicate}
use Rattle.std.specs.Prelude.{Bool, true, false, not, ◌||◌, ◌&&◌, nat_eq, bit_xor}
use Rattle.std.specs.Int.{bit_at}
use Rattle.std.proofs.lemmas.Bool.{cases_lt, true≢false}
use Rattle.std.proofs.lemmas.List.{get_or-replicate, get_or_past}
use Rattle.std.proofs.lemmas.Nat.Bits.{bit_at_or, bit_at_and, bit_at_xor, bit_at-lt, bit_at-zero, same_from_bits_below}
use Rattle.sig_types.specs.Sets.{has_bit}
use Rattle.sig_matrix.specs.Detection.{in_row}
use Rattle.sig_reason.specs.Rows.{HasJust, IsEmpty, HasSome}
use Rattle.sig_reason.proofs.Searching.{true_below}

max-bit : (x y : ℕ) → x < 2 → y < 2 → nat_eq (max x y) 1 ≡ (nat_eq x 1 || nat_eq y 1)
max-bit zero zero h k = refl
max-bit zero (suc zero) h k = refl
max-bit zero (suc (suc y)) h k = absurd (let bad : ⊥ = omega arith in bad)
max-bit (suc zero) zero h k = refl
max-bit (suc zero) (suc zero) h k = refl
max-bit (suc zero) (suc (suc y)) h k = absurd (let bad : ⊥ = omega arith in bad)
max-bit (suc (suc x)) y h k = absurd (let bad : ⊥ = omega arith in bad)

min-bit : (x y : ℕ) → x < 2 → y < 2 → nat_eq (min x y) 1 ≡ (nat_eq x 1 && nat_eq y 1)
min-bit zero zero h k = refl
min-bit zero (suc zero) h k = refl
min-bit zero (suc (suc y)) h k = absurd (let bad : ⊥ = omega arith in bad)
min-bit (suc zero) zero h k = refl
min-bit (suc zero) (suc zero) h k = refl
min-bit (suc zero) (suc (suc y)) h k = absurd (let bad : ⊥ = omega arith in bad)
min-bit (suc (suc x)) y h k = absurd (let bad : ⊥ = omega arith in bad)

less-bit : (x y : ℕ) → x < 2 → y < 2 → nat_eq ((x + min x y) % 2) 1 ≡ (nat_eq x 1 && not (nat_eq y 1))
less-bit zero zero h k = refl
less-bit zero (suc zero) h k = refl
less-bit zero (suc (suc y)) h k = absurd (let bad : ⊥ = omega arith in bad)
less-bit (suc zero) zero h k = refl
less-bit (suc zero) (suc zero) h k = refl
less-bit (suc zero) (suc (suc y)) h k = absurd (let bad : ⊥ = omega arith in bad)
less-bit (suc (suc x)) y h k = absurd (let bad : ⊥ = omega arith in bad)

or-bit : (a b i : ℕ) → has_bit (bit_or a b) i ≡ (has_bit a i || has_bit b i)
or-bit a b i = ap (λ n. nat_eq n 1) (bit_at_or a b i) ∙ max-bit (bit_at a i) (bit_at b i) (bit_at-lt a i) (bit_at-lt b i)

and-bit : (a b i : ℕ) → has_bit (bit_and a b) i ≡ (has_bit a i && has_bit b i)
and-bit a b i = ap (λ n. nat_eq n 1) (bit_at_and a b i) ∙ min-bit (bit_at a i) (bit_at b i) (bit_at-lt a i) (bit_at-lt b i)

lacks-bit : (a b i : ℕ) → has_bit (bit_xor a (bit_and a b)) i ≡ (has_bit a i && not (has_bit b i))
lacks-bit a b i = ap (λ n. nat_eq n 1) (bit_at_xor a (bit_and a b) i ∙ ap (λ n. (bit_at a i + n) % 2) (bit_at_and a b i)) ∙ less-bit (bit_at a i) (bit_at b i) (bit_at-lt a i) (bit_at-lt b i)

-- two rows, word by word
abbrev pub by_words : (ℕ → ℕ → ℕ) → List ℕ → List ℕ → List ℕ
by_words f a b = f (get_or a 0 0) (get_or b 0 0) ∷ f (get_or a 1 0) (get_or b 1 0) ∷ f (get_or a 2 0) (get_or b 2 0) ∷ f (get_or a 3 0) (get_or b 3 0) ∷ []

by-word : (f : ℕ → ℕ → ℕ) (a b : List ℕ) (k : ℕ) → k < 4 → get_or (by_words f a b) k 0 ≡ f (get_or a k 0) (get_or b k 0)
by-word f a b zero lt = refl
by-word f a b (suc zero) lt = refl
by-word f a b (suc (suc zero)) lt = refl
by-word f a b (suc (suc (suc zero))) lt = refl
by-word f a b (suc (suc (suc (suc k)))) lt = absurd (let bad : ⊥ = omega arith in bad)

pub joined-is : (a b : List ℕ) → HasJust (by_words bit_or a b) (λ t. in_row a t || in_row b t)
joined-is a b = record { tests = λ t lt. ap (λ w. has_bit w (t % 64)) (by-word bit_or a b (t / 64) (omega arith)) ∙ or-bit (get_or a (t / 64) 0) (get_or b (t / 64) 0) (t % 64) }

pub common-is : (a b : List ℕ) → HasJust (by_words bit_and a b) (λ t. in_row a t && in_row b t)
common-is a b = record { tests = λ t lt. ap (λ w. has_bit w (t % 64)) (by-word bit_and a b (t / 64) (omega arith)) ∙ and-bit (get_or a (t / 64) 0) (get_or b (t / 64) 0) (t % 64) }

pub without-is : (a b : List ℕ) → HasJust (by_words (λ x y. bit_xor x (bit_and x y)) a b) (λ t. in_row a t && not (in_row b t))
without-is a b = record { tests = λ t lt. ap (λ w. has_bit w (t % 64)) (by-word (λ x y. bit_xor x (bit_and x y)) a b (t / 64) (omega arith)) ∙ lacks-bit (get_or a (t / 64) 0) (get_or b (t / 64) 0) (t % 64) }

-- zero words have no test
pub empty-from : (row : List ℕ) → ((k : ℕ) → k < 4 → get_or row k 0 ≡ 0) → IsEmpty row
empty-from row zeros = record { none = λ t lt. ap (λ w. has_bit w (t % 64)) (zeros (t / 64) (omega arith)) ∙ ap (λ b. nat_eq b 1) (bit_at-zero (t % 64)) }

clear-bit : (w i : ℕ) → has_bit w i ≡ false → bit_at w i ≡ 0
clear-bit w i none = let lt = bit_at-lt w i in elim (cases_lt (bit_at w i) 1) [
  | inl low ↦ omega arith
  | inr high ↦ (let one : bit_at w i ≡ 1 = omega arith in absurd (true≢false (sym (ap (λ b. nat_eq b 1) one) ∙ none)))
]

-- a word that isn't zero has a test
pub some-from : (row : List ℕ) (k : ℕ) → k < 4 → get_or row k 0 < 2 ^ 64 → (get_or row k 0 ≡ 0 → ⊥) → HasSome row
some-from row k lt fits apart = elim (true_below (λ i. has_bit (get_or row k 0) i) 64) [
  | inl x ↦ (let i = x.0 in let below = x.1 in
      let quotient : (64 * k + x.0) / 64 ≡ k = omega arith in
      let rest : (64 * k + x.0) % 64 ≡ x.0 = omega arith in
      record { test = 64 * k + x.0; small = omega arith; there = ap (λ q. has_bit (get_or row q 0) ((64 * k + x.0) % 64)) quotient ∙ ap (λ r. has_bit (get_or row k 0) r) rest ∙ x.2 })
  | inr none ↦ absurd (apart (same_from_bits_below 64 (get_or row k 0) 0 fits (let p : 0 < 2 ^ 64 = omega arith in p) (λ i below. clear-bit (get_or row k 0) i (none i below) ∙ sym (bit_at-zero i))))
]

-- no test is in a row of zeros
pub zero-row : (t : ℕ) → in_row (replicate {A = ℕ} 4 0) t ≡ false
zero-row t = ap (λ w. has_bit w (t % 64)) zero_word ∙ ap (λ b. nat_eq b 1) (bit_at-zero (t % 64))
  where
    zero_word : get_or (replicate {A = ℕ} 4 0) (t / 64) 0 ≡ 0
    zero_word = elim (cases_lt (t / 64) 4) [
      | inl lt ↦ get_or-replicate 4 (t / 64) 0 0 lt
      | inr past ↦ get_or_past (replicate {A = ℕ} 4 0) (t / 64) 0 past
    ]

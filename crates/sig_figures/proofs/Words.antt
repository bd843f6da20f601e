-- A row of four words is known bit by bit: what the code computes word by word is said test by test.
use Rattle.std.proofs.Common.{◌≡◌, ℕ, zero, suc, ◌+◌, ◌-◌, ◌*◌, ◌/◌, ◌%◌, ◌^◌, ◌<◌, max, List, [], ◌∷◌, get_or, replicate, bit_or, refl, sym, ap, ◌∙◌, arith, inl, inr, w64}
use Rattle.std.specs.Prelude.{Bool, true, false, not, ◌||◌, nat_eq}
use Rattle.std.specs.Int.{bit_at}
use Rattle.std.proofs.lemmas.Bool.{cases_lt, true≢false}
use Rattle.std.proofs.lemmas.List.{ext_get_or, get_or-replicate, get_or_past}
use Rattle.std.proofs.lemmas.Nat.Bits.{bit_at_or, bit_at_not, bit_at-lt, bit_at-zero, same_from_bits_below}
use Rattle.sig_types.specs.Sets.{has_bit}
use Rattle.seq_theory.specs.States.{same}
use Rattle.sig_matrix.specs.Detection.{in_row, AreFourWords}
use Rattle.sig_figures.specs.Gathering.{AddsBits, AddsTests}

max-bit : (x y : ℕ) → x < 2 → y < 2 → nat_eq (max x y) 1 ≡ (nat_eq x 1 || nat_eq y 1)
max-bit zero zero h k = refl
max-bit zero (suc zero) h k = refl
max-bit zero (suc (suc y)) h k = absurd (let no : ⊥ = omega arith in no)
max-bit (suc zero) zero h k = refl
max-bit (suc zero) (suc zero) h k = refl
max-bit (suc zero) (suc (suc y)) h k = absurd (let no : ⊥ = omega arith in no)
max-bit (suc (suc x)) y h k = absurd (let no : ⊥ = omega arith in no)

or-bit : (a b i : ℕ) → has_bit (bit_or a b) i ≡ (has_bit a i || has_bit b i)
or-bit a b i = ap (λ n. nat_eq n 1) (bit_at_or a b i) ∙ max-bit (bit_at a i) (bit_at b i) (bit_at-lt a i) (bit_at-lt b i)

less-bit : (x : ℕ) → x < 2 → nat_eq (1 - x) 1 ≡ not (nat_eq x 1)
less-bit zero h = refl
less-bit (suc zero) h = refl
less-bit (suc (suc x)) h = absurd (let no : ⊥ = omega arith in no)

not-bit : (n i : ℕ) → n < 2 ^ 64 → i < 64 → has_bit (2 ^ 64 - 1 - n) i ≡ not (has_bit n i)
not-bit n i fits lt = ap (λ b. nat_eq b 1) (bit_at_not w64 n i fits lt) ∙ less-bit (bit_at n i) (bit_at-lt n i)

same-true : (b : Bool) → same b true ≡ b
same-true true = refl
same-true false = refl

pub same-false : (b : Bool) → not (same b false) ≡ b
same-false true = refl
same-false false = refl

-- the bits that the other has
pub adds-those : (old other : ℕ) → AddsBits old other false (bit_or old other)
adds-those old other = record { bits = λ bit lt. or-bit old other bit ∙ ap (λ b. has_bit old bit || b) (sym (same-false (has_bit other bit))) }

-- the bits that the other lacks
pub adds-others : (old other : ℕ) → other < 2 ^ 64 → AddsBits old other true (bit_or old (2 ^ 64 - 1 - other))
adds-others old other fits = record {
  bits = λ bit lt. or-bit old (2 ^ 64 - 1 - other) bit ∙ ap (λ b. has_bit old bit || b) (not-bit other bit fits lt ∙ ap not (sym (same-true (has_bit other bit))));
}

-- word by word, and so test by test
pub adds-tests : (old other : List ℕ) (alike : Bool) (a b c d : ℕ) → AddsBits (get_or old 0 0) (get_or other 0 0) alike a → AddsBits (get_or old 1 0) (get_or other 1 0) alike b → AddsBits (get_or old 2 0) (get_or other 2 0) alike c
    → AddsBits (get_or old 3 0) (get_or other 3 0) alike d → AddsTests old other alike (a ∷ b ∷ c ∷ d ∷ [])
adds-tests old other alike a b c d ha hb hc hd = record { tests = λ test lt. (word (test / 64) (omega arith)).bits (test % 64) (omega arith) }
  where
    word : (k : ℕ) → k < 4 → AddsBits (get_or old k 0) (get_or other k 0) alike (get_or (a ∷ b ∷ c ∷ d ∷ []) k 0)
    word zero lt = ha
    word (suc zero) lt = hb
    word (suc (suc zero)) lt = hc
    word (suc (suc (suc zero))) lt = hd
    word (suc (suc (suc (suc k)))) lt = absurd (let no : ⊥ = omega arith in no)

-- no bit of zero words is set
pub zero-row : (test : ℕ) → in_row (replicate {A = ℕ} 4 0) test ≡ false
zero-row test = ap (λ w. has_bit w (test % 64)) zero_word ∙ ap (λ b. nat_eq b 1) (bit_at-zero (test % 64))
  where
    zero_word : get_or (replicate {A = ℕ} 4 0) (test / 64) 0 ≡ 0
    zero_word = elim (cases_lt (test / 64) 4) [
      | inl lt ↦ get_or-replicate 4 (test / 64) 0 0 lt
      | inr past ↦ get_or_past (replicate {A = ℕ} 4 0) (test / 64) 0 past
    ]

clear-bit : (w i : ℕ) → has_bit w i ≡ false → bit_at w i ≡ 0
clear-bit w i none = let lt = bit_at-lt w i in elim (cases_lt (bit_at w i) 1) [
  | inl low ↦ omega arith
  | inr high ↦ (let one : bit_at w i ≡ 1 = omega arith in absurd (true≢false (sym (ap (λ b. nat_eq b 1) one) ∙ none)))
]

-- four words without a bit are zero
pub row-from_clear : (row : List ℕ) → AreFourWords row → ((test : ℕ) → test < 256 → in_row row test ≡ false) → row ≡ replicate {A = ℕ} 4 0
row-from_clear row four clear = ext_get_or 0 row (replicate {A = ℕ} 4 0) four.four (λ k lt. word k (let long = four.four in omega arith))
  where
    word : (k : ℕ) → k < 4 → get_or row k 0 ≡ get_or (replicate {A = ℕ} 4 0) k 0
    word k lt = same_from_bits_below 64 (get_or row k 0) 0 (four.words k lt) (let p : 0 < 2 ^ 64 = omega arith in p) (λ i below. clear-bit (get_or row k 0) i (bit i below) ∙ sym (bit_at-zero i)) ∙ sym (get_or-replicate 4 k 0 0 lt)
      where
        bit : (i : ℕ) → i < 64 → has_bit (get_or row k 0) i ≡ false
        bit i below =
            let quotient : (64 * k + i) / 64 ≡ k = omega arith in
            let rest : (64 * k + i) % 64 ≡ i = omega arith in
            ap (λ q. has_bit (get_or row q 0) i) (sym quotient) ∙ ap (λ r. has_bit (get_or row ((64 * k + i) / 64) 0) r) (sym rest) ∙ clear (64 * k + i) (omega arith)

-- A bit of a number of words is a bit of one of its words.
use Rattle.std.proofs.Common.{◌≡◌, ℕ, suc, ◌+◌, ◌-◌, ◌*◌, ◌/◌, ◌%◌, ◌<◌, ◌^◌, List, [], ◌∷◌, length, get_or, sym, ap, ◌∙◌, arith, inl, inr}
use Rattle.std.specs.Int.{bit_at}
use Rattle.std.proofs.lemmas.Bool.{cases_lt}
use Rattle.std.proofs.lemmas.Nat.Bits.{bit_at-zero, bit_at_cat_low, bit_at_cat_high}
use Rattle.sig_lines.specs.Hex.{number_of_words}

-- every word is below 2 ^ 64
abbrev pub AreWords64 : List ℕ → Type 0
AreWords64 ws = (i : ℕ) → i < length ws → get_or ws i 0 < 2 ^ 64

-- bit c of the number is bit c % 64 of word c / 64
pub bit_of_words : (ws : List ℕ) (c : ℕ) → AreWords64 ws → bit_at (number_of_words ws) c ≡ bit_at (get_or ws (c / 64) 0) (c % 64)
bit_of_words [] c below = bit_at-zero c ∙ sym (bit_at-zero (c % 64))
bit_of_words (w ∷ ws) c below =
    let low : w < 2 ^ 64 = below 0 (omega arith) in
    let turned : w + 2 ^ 64 * number_of_words ws ≡ number_of_words ws * 2 ^ 64 + w = omega arith in
    ap (λ n. bit_at n c) turned ∙ elim (cases_lt c 64) [
      | inl first ↦
          (let place : c / 64 ≡ 0 = omega arith in
          let rest : c % 64 ≡ c = omega arith in
          bit_at_cat_low (number_of_words ws) 64 w c first ∙ sym (ap (λ k. bit_at (get_or (w ∷ ws) (c / 64) 0) k) rest ∙ ap (λ k. bit_at (get_or (w ∷ ws) k 0) c) place))
      | inr later ↦
          (let place : c / 64 ≡ suc ((c - 64) / 64) = omega arith in
          let rest : c % 64 ≡ (c - 64) % 64 = omega arith in
          bit_at_cat_high (number_of_words ws) 64 w c low later
          ∙ bit_of_words ws (c - 64) (λ i lt. below (suc i) (omega arith))
          ∙ sym (ap (λ k. bit_at (get_or (w ∷ ws) (c / 64) 0) k) rest ∙ ap (λ k. bit_at (get_or (w ∷ ws) k 0) ((c - 64) % 64)) place))
    ]

-- The bits of words that are taken together.
use Rattle.std.proofs.Common.{◌≡◌, ℕ, ◌-◌, ◌^◌, ◌<◌, bit_and, bit_or, min, sym, ap, ◌∙◌, arith, ◌⊎◌, inl, inr, w64}
use Rattle.std.specs.Prelude.{true, false}
use Rattle.std.specs.Int.{bit_at, bit_not}
use Rattle.std.proofs.lemmas.Bool.{cases_lt, eqb-true, eqb-false, eq-eqb, ne_eqb}
use Rattle.std.proofs.lemmas.Nat.{le_or_l, and_le_l}
use Rattle.std.proofs.lemmas.Nat.Bits.{bit_at_and, bit_at_or, bit_at_not, bit_at_ones, bit_at-zero, bit_at-lt, same_from_bits_below}
use Rattle.sig_types.specs.Sets.{has_bit}

-- a bit is 1 where the set has the number, and 0 where not
pub bit-has : (word s : ℕ) → has_bit word s ≡ true → bit_at word s ≡ 1
bit-has word s h = eqb-true (bit_at word s) 1 h

pub bit-lacks : (word s : ℕ) → has_bit word s ≡ false → bit_at word s ≡ 0
bit-lacks word s h =
    let small = bit_at-lt word s in
    let ne = eqb-false (bit_at word s) 1 h in
    elim (cases_lt (bit_at word s) 1) [ inl lt ↦ omega arith | inr ge ↦ absurd (ne (omega arith)) ]

pub has-bit : (word s : ℕ) → bit_at word s ≡ 1 → has_bit word s ≡ true
has-bit word s e = eq-eqb (bit_at word s) 1 e

pub lacks-bit : (word s : ℕ) → bit_at word s ≡ 0 → has_bit word s ≡ false
lacks-bit word s e = ne_eqb (bit_at word s) 1 (λ o. let f : ⊥ = omega arith in f)

pub has-zero : (s : ℕ) → has_bit 0 s ≡ false
has-zero s = lacks-bit 0 s (bit_at-zero s)

pub has-all : (s : ℕ) → s < 64 → has_bit (2 ^ 64 - 1) s ≡ true
has-all s small = has-bit (2 ^ 64 - 1) s (bit_at_ones 64 s small)

-- what a word has that another lacks
module _ (a b s : ℕ) (fits : b < 2 ^ 64) (small : s < 64) where
  pub and_not-at : bit_at (bit_and a (bit_not w64 b)) s ≡ min (bit_at a s) (1 - bit_at b s)
  and_not-at = bit_at_and a (bit_not w64 b) s ∙ ap (min (bit_at a s)) (bit_at_not w64 b s fits small)

  pub left-has : has_bit a s ≡ true → has_bit b s ≡ false → has_bit (bit_and a (bit_not w64 b)) s ≡ true
  left-has h l = let e = and_not-at in let one = bit-has a s h in let none = bit-lacks b s l in has-bit (bit_and a (bit_not w64 b)) s (omega arith)

  pub left-of : has_bit (bit_and a (bit_not w64 b)) s ≡ true → (has_bit a s ≡ true) × (has_bit b s ≡ false)
  left-of h = let e = and_not-at in let one = bit-has (bit_and a (bit_not w64 b)) s h in let la = bit_at-lt a s in let lb = bit_at-lt b s in (has-bit a s (omega arith), lacks-bit b s (omega arith))

-- what is put into a word
pub put-has : (a b s : ℕ) → has_bit b s ≡ true → has_bit (bit_or a b) s ≡ true
put-has a b s h = let e = bit_at_or a b s in let one = bit-has b s h in let small = bit_at-lt a s in has-bit (bit_or a b) s (omega arith)

pub put-keeps : (a b s : ℕ) → has_bit a s ≡ true → has_bit (bit_or a b) s ≡ true
put-keeps a b s h = let e = bit_at_or a b s in let one = bit-has a s h in let small = bit_at-lt b s in has-bit (bit_or a b) s (omega arith)

pub put-only : (a b s : ℕ) → has_bit (bit_or a b) s ≡ true → (has_bit a s ≡ true) ⊎ (has_bit b s ≡ true)
put-only a b s h =
    let e = bit_at_or a b s in
    let one = bit-has (bit_or a b) s h in
    let sa = bit_at-lt a s in
    let sb = bit_at-lt b s in
    elim (cases_lt (bit_at a s) 1) [ inl lt ↦ inr (has-bit b s (omega arith)) | inr ge ↦ inl (has-bit a s (omega arith)) ]

-- a word into which something new is put grows
pub put-grows : (a b : ℕ) → a < 2 ^ 64 → b < 2 ^ 64 → (bit_and b (bit_not w64 a) ≡ 0 → ⊥) → a < bit_or a (bit_and b (bit_not w64 a))
put-grows a b fa fb new = elim (cases_lt a (bit_or a f)) [
  | inl lt ↦ lt
  | inr ge ↦ (let le = le_or_l a f in
      let e : bit_or a f ≡ a = omega arith in
      absurd (new (same_from_bits_below 64 f 0 small (omega arith) (λ i lt. none i lt e ∙ sym (bit_at-zero i)))))
]
  where
    f : ℕ
    f = bit_and b (bit_not w64 a)

    small : f < 2 ^ 64
    small = let le = and_le_l b (bit_not w64 a) in omega arith

    none : (i : ℕ) → i < 64 → bit_or a f ≡ a → bit_at f i ≡ 0
    none i lt e =
        let o = bit_at_or a f i in
        let n : bit_at f i ≡ min (bit_at b i) (1 - bit_at a i) = and_not-at b a i fa lt in
        let same : bit_at (bit_or a f) i ≡ bit_at a i = ap (λ w. bit_at w i) e in
        let sa = bit_at-lt a i in
        omega arith

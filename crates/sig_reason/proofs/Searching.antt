-- Of the numbers below a bound one is found, or all are passed over: each number is decided, and the last one decides last.
use Rattle.std.proofs.Common.{◌≡◌, ℕ, zero, suc, ◌<◌, ◌⊎◌, inl, inr, subst, arith}
use Rattle.std.specs.Prelude.{Bool, true, false}
use Rattle.std.proofs.lemmas.Bool.{cases_Bool, cases_lt}

pub one_below : (A B : ℕ → Type 0) → ((k : ℕ) → A k ⊎ B k) → (n : ℕ) → ((k : ℕ) × (k < n) × A k) ⊎ ((k : ℕ) → k < n → B k)
one_below A B decide zero = inr (λ k lt. absurd (let no : ⊥ = omega arith in no))
one_below A B decide (suc n) = elim (one_below A B decide n) [
  | inl x ↦ inl (x.0, (let lt = x.1 in omega arith), x.2)
  | inr none ↦ elim (decide n) [
    | inl here ↦ inl (n, omega arith, here)
    | inr passed ↦ inr (λ k lt. elim (cases_lt k n) [
      | inl below ↦ none k below
      | inr past ↦ (let e : n ≡ k = omega arith in subst B e passed)
    ])
  ]
]

pub true_below : (p : ℕ → Bool) (n : ℕ) → ((k : ℕ) × (k < n) × (p k ≡ true)) ⊎ ((k : ℕ) → k < n → p k ≡ false)
true_below p n = one_below (λ k. p k ≡ true) (λ k. p k ≡ false) (λ k. cases_Bool (p k)) n

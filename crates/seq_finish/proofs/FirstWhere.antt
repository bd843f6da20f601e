-- The first of the splitting tests that passes: that at which a loop from 0 on stops.
use Rattle.std.proofs.Common.{◌≡◌, ℕ, zero, suc, ◌+◌, ◌<◌, ◌≤◌, ap, ◌∙◌, arith, inl, inr}
use Rattle.std.specs.Prelude.{Bool, true, false, filter}
use Rattle.std.proofs.lemmas.Bool.{cases_Bool, cases_lt}
use Rattle.seq_theory.specs.Problem.{count_up}
use Rattle.seq_theory.specs.Graph.{first_where}

module _ (f g : ℕ → Bool) where
  pub first_where-at : (n from t : ℕ) → from ≤ t → t < from + n → g t ≡ true → f t ≡ true → ((u : ℕ) → from ≤ u → u < t → g u ≡ true → f u ≡ false) → first_where f (filter g (count_up from n)) ≡ t
  first_where-at zero from t le lt gt ft before = absurd (let bad : ⊥ = omega arith in bad)
  first_where-at (suc n) from t le lt gt ft before = elim (cases_lt from t) [
    | inr ge ↦ (let is : from ≡ t = omega arith in rw (ap g is ∙ gt, ap f is ∙ ft) is)
    | inl below ↦
        (let rest = first_where-at n (suc from) t (omega arith) (omega arith) gt ft (λ u l h. before u (omega arith) h) in
        elim (cases_Bool (g from)) [
          | inr no_split ↦ rw no_split rest
          | inl y ↦ rw (y, before from (omega arith) below y) rest
        ])
  ]

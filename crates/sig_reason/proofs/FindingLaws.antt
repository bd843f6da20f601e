-- What the findings say, gathered finding by finding, and of the faults, fault by fault.
use Rattle.std.proofs.Common.{◌≡◌, ◌⊎◌, ℕ, ◌+◌, ◌<◌, List, [], ◌∷◌, ◌++◌, length, get_or, refl, sym, ap, ◌∙◌, subst, arith, inl, inr, replicate}
use Rattle.std.specs.Prelude.{Bool, true, false, Contains}
use Rattle.std.proofs.lemmas.Bool.{cases_lt, both_ways}
use Rattle.std.proofs.lemmas.List.{get_or_default}
use Rattle.sig_matrix.specs.declared.matrix.Matrix.{Matrix}
use Rattle.sig_matrix.specs.Detection.{in_row, no_row}
use Rattle.sig_reason.specs.declared.found.Finding.{Finding}
use Rattle.sig_reason.specs.declared.causes.Standing.{Standing}
use Rattle.sig_reason.specs.Causes.{TellsTests, AddsFinding, IsStanding, no_standing}
use Rattle.sig_reason.proofs.WordLaws.{zero-row}
use Rattle.sig_reason.proofs.Gathering.{each-next, length-next}

-- the row has the tests of the first n findings that failed, or passed, as is asked
pub record TellsFirst (findings : List Finding) (failed : Bool) (n : ℕ) (row : List ℕ) : Type 0 where
  pub told : (t : ℕ) → in_row row t ≡ true → (k : ℕ) × (k < length findings) × (k < n) × ((get_or findings k (record { test = t; failed = failed })).test ≡ t) × ((get_or findings k (record { test = t; failed = failed })).failed ≡ failed)
  pub all : (k : ℕ) (d : Finding) → k < n → k < length findings → (get_or findings k d).failed ≡ failed → in_row row (get_or findings k d).test ≡ true

pub tells-none : (findings : List Finding) (failed : Bool) → TellsFirst findings failed 0 (replicate {A = ℕ} 4 0)
tells-none findings failed = record {
  told = λ t y. absurd (both_ways (in_row (replicate {A = ℕ} 4 0) t) (zero-row t) y);
  all = λ k d lt. absurd (let bad : ⊥ = omega arith in bad);
}

pub tells-next : (findings : List Finding) (failed : Bool) (n : ℕ) (old new : List ℕ) (x : Finding) → n < length findings → ((d : Finding) → get_or findings n d ≡ x) → TellsFirst findings failed n old → AddsFinding old x failed new → TellsFirst findings failed (n + 1) new
tells-next findings failed n old new x small is h adds = record { told = told; all = all }
  where
    told : (t : ℕ) → in_row new t ≡ true → (k : ℕ) × (k < length findings) × (k < n + 1) × ((get_or findings k (record { test = t; failed = failed })).test ≡ t) × ((get_or findings k (record { test = t; failed = failed })).failed ≡ failed)
    told t y = elim (adds.told t y) [
      | inl before ↦ (let z = h.told t before in (z.0, z.1, (let p = z.2 in omega arith), z.3, z.4))
      | inr here ↦ (n, small, omega arith, ap (λ (f : Finding). f.test) (is (record { test = t; failed = failed })) ∙ here.0, ap (λ (f : Finding). f.failed) (is (record { test = t; failed = failed })) ∙ here.1)
    ]

    all : (k : ℕ) (d : Finding) → k < n + 1 → k < length findings → (get_or findings k d).failed ≡ failed → in_row new (get_or findings k d).test ≡ true
    all k d lt len bad = elim (cases_lt k n) [
      | inl under ↦ adds.kept (get_or findings k d).test (h.all k d under len bad)
      | inr past ↦ (let same : n ≡ k = omega arith in let it : get_or findings k d ≡ x = ap (λ i. get_or findings i d) (sym same) ∙ is d in
          subst (λ (f : Finding). in_row new f.test ≡ true) (sym it) (adds.there (ap (λ (f : Finding). f.failed) (sym it) ∙ bad)))
    ]

pub tells-all : (findings : List Finding) (failed : Bool) (n : ℕ) (row : List ℕ) → length findings ≡ n → TellsFirst findings failed n row → TellsTests findings failed row
tells-all findings failed n row whole h = record {
  told = λ t lt y. let x = h.told t y in (x.0, x.1, same (get_or findings x.0 (record { test = t; failed = failed })) t x.3 x.4);
  all = λ x has bad. subst (λ (f : Finding). in_row row f.test ≡ true) has.2 (h.all has.0 x (let p = has.1 in omega arith) has.1 (ap (λ (f : Finding). f.failed) has.2 ∙ bad));
}
  where
    same : (f : Finding) (t : ℕ) → f.test ≡ t → f.failed ≡ failed → f ≡ record { test = t; failed = failed }
    same f t p q = ap (λ n. record { test = n; failed = f.failed }) p ∙ ap (λ b. record { test = t; failed = b }) q

-- what the tests say of the first n faults
pub record AreFirstStandings (matrix : Matrix) (passed failed : List ℕ) (n : ℕ) (standings : List Standing) : Type 0 where
  pub long : length standings ≡ n
  pub each : (f : ℕ) → f < n → IsStanding (get_or matrix.faults f no_row).row passed failed (get_or standings f no_standing)

pub standings-none : (matrix : Matrix) (passed failed : List ℕ) → AreFirstStandings matrix passed failed 0 []
standings-none matrix passed failed = record { long = refl; each = λ f lt. absurd (let bad : ⊥ = omega arith in bad) }

pub standings-next : (matrix : Matrix) (passed failed : List ℕ) (n : ℕ) (standings : List Standing) (s : Standing) (row : List ℕ) → row ≡ (get_or matrix.faults n no_row).row → IsStanding row passed failed s → AreFirstStandings matrix passed failed n standings
    → AreFirstStandings matrix passed failed (n + 1) (standings ++ s ∷ [])
standings-next matrix passed failed n standings s row is here h = record {
  long = (let long = length-next standings s in let before = h.long in omega arith);
  each = each-next (λ f x. IsStanding (get_or matrix.faults f no_row).row passed failed x) standings s no_standing n h.long h.each (subst (λ r. IsStanding r passed failed s) is here);
}

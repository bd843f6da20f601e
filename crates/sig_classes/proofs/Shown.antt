-- The matrix of the tests is valid.
use Rattle.std.proofs.Common.{◌≡◌, ℕ, zero, suc, ◌<◌, ◌≤◌, List, [], ◌∷◌, get_or, refl, arith, subst, sym, ap, ◌∙◌}
use Rattle.std.specs.Prelude.{Bool, true, false, codes, nat_le, ◌&&◌}
use Rattle.std.proofs.lemmas.Bool.{agree_below_at, le-leb}
use Rattle.sig_lines.specs.declared.labels.TestLabel.{TestLabel}
use Rattle.sig_matrix.specs.declared.matrix.FaultRow.{FaultRow}
use Rattle.sig_matrix.specs.declared.matrix.Matrix.{Matrix}
use Rattle.sig_matrix.specs.Detection.{detects, no_row, no_label}
use Rattle.sig_matrix.specs.Valid.{IsValid}

abbrev pub seen_fault : FaultRow
seen_fault = record { weight = 3; label = codes "A.f"; row = 1 ∷ 0 ∷ 0 ∷ 0 ∷ [] }

abbrev pub unseen_fault : FaultRow
unseen_fault = record { weight = 4; label = codes "B.f"; row = 0 ∷ 0 ∷ 0 ∷ 0 ∷ [] }

abbrev pub shown : Matrix
shown = record { good = 2; faults = seen_fault ∷ unseen_fault ∷ []; tests = record { cost = 1; label = codes "X/t" } ∷ [] }

both : (x y : Bool) → x ≡ true → (x && y) ≡ false → y ≡ false
both true y e f = f
both false y e f = absurd (cc)

nothing_else : (f t : ℕ) → f < 2 → 1 ≤ t → t < 256 → detects shown f t ≡ false
nothing_else zero t lt past below = both (nat_le 1 t) (detects shown 0 t) (le-leb 1 t past) (agree_below_at (λ k. nat_le 1 k && detects shown 0 k) (λ _. false) 256 t refl below)
nothing_else (suc zero) t lt past below = both (nat_le 1 t) (detects shown 1 t) (le-leb 1 t past) (agree_below_at (λ k. nat_le 1 k && detects shown 1 k) (λ _. false) 256 t refl below)
nothing_else (suc (suc f)) t lt past below = absurd (let h : ⊥ = omega arith in h)

weights : (f : ℕ) → f < 2 → (1 ≤ (get_or shown.faults f no_row).weight) × ((get_or shown.faults f no_row).weight ≤ 1000000)
weights zero lt = (omega arith, omega arith)
weights (suc zero) lt = (omega arith, omega arith)
weights (suc (suc f)) lt = absurd (let h : ⊥ = omega arith in h)

costs : (t : ℕ) → t < 1 → (1 ≤ (get_or shown.tests t no_label).cost) × ((get_or shown.tests t no_label).cost ≤ 1000000)
costs zero lt = (omega arith, omega arith)
costs (suc t) lt = absurd (let h : ⊥ = omega arith in h)

IsValid-shown : IsValid shown
IsValid-shown = record {
  some = omega arith;
  many = omega arith;
  good = omega arith;
  faults = omega arith;
  tests = omega arith;
  weights = weights;
  costs = costs;
  nothing_else = nothing_else;
}

-- the same for one that a test has made of its parts
pub IsValid-made : (seen unseen : FaultRow) (label : List ℕ) (faults : List FaultRow) (tests : List TestLabel) → seen ≡ seen_fault → unseen ≡ unseen_fault → label ≡ codes "X/t"
    → faults ≡ seen ∷ unseen ∷ [] → tests ≡ record { cost = 1; label = label } ∷ [] → IsValid (record { good = 2; faults = faults; tests = tests })
IsValid-made seen unseen label faults tests is_seen is_unseen is_label are_faults are_tests =
    subst (λ l. IsValid (record { good = 2; faults = l; tests = tests })) (sym (are_faults ∙ ap (λ f. f ∷ unseen ∷ []) is_seen ∙ ap (λ f. seen_fault ∷ f ∷ []) is_unseen))
    (subst (λ l. IsValid (record { good = 2; faults = seen_fault ∷ unseen_fault ∷ []; tests = l })) (sym (are_tests ∙ ap (λ t. record { cost = 1; label = t } ∷ []) is_label)) IsValid-shown)

-- The labels of a matrix are those of the problem of its ambiguity groups.
use Rattle.std.proofs.Common.{◌≡◌, ℕ, zero, suc, ◌+◌, ◌<◌, ◌≤◌, List, [], ◌∷◌, length, refl, sym, ap, ◌∙◌, arith, inl, inr, subst}
use Rattle.std.specs.Prelude.{map, filter, nat_eq, sum_by, All}
use Rattle.std.proofs.lemmas.Bool.{cases_Bool}
use Rattle.std.proofs.lemmas.List.Sums.{sum_by-cons}
use Rattle.std.proofs.lemmas.List.Elements.{All-nil, All-cons}
use Rattle.seq_theory.specs.Problem.{Problem, count_up, weight_of}
use Rattle.seq_theory.specs.States.{class_of, firsts, is_first, state_problem, IsOfClasses}
use Rattle.seq_theory.proofs.BelowLaws.{length-count_up}
use Rattle.seq_theory.proofs.StatesLaws.{class_of-there}
use Rattle.seq_theory.proofs.GroupLaws.{length-two_filters}
use Rattle.sig_lines.specs.declared.labels.StateLabel.{StateLabel}
use Rattle.sig_matrix.specs.declared.matrix.Matrix.{Matrix}
use Rattle.sig_matrix.specs.Detection.{system_of, state_count, state_weight}
use Rattle.sig_classes.specs.Labels.{labels_from, state_label}
use Rattle.seq_cert.specs.OutcomeReport.{is_of}
use Rattle.seq_cert.specs.LabelsOf.{AreLabelsOf}

-- the states of a class weigh as labels what they weigh as states
weights-in : (m : Matrix) (k : ℕ) (xs : List ℕ) → sum_by (λ (s : StateLabel). s.weight) (filter (is_of k) (map (state_label m) xs)) ≡ weight_of (state_problem (system_of m)) (filter (λ s. nat_eq (class_of (system_of m) s) k) xs)
weights-in m k [] = refl
weights-in m k (x ∷ xs) = elim (cases_Bool (nat_eq (class_of (system_of m) x) k)) [
  | inl there ↦ rw there (sum_by-cons (λ (s : StateLabel). s.weight) (state_label m x) (filter (is_of k) (map (state_label m) xs)) ∙ ap (λ n. state_weight m x + n) (weights-in m k xs))
  | inr other ↦ rw other (weights-in m k xs)
]

-- a property of each number of a range is one of each item made from it
pub All-made : {X : Type 0} (P : X → Type 0) (f : ℕ → X) (from n : ℕ) → ((k : ℕ) → from ≤ k → k < from + n → P (f k)) → All P (map f (count_up from n))
All-made P f from zero h = All-nil P
All-made P f from (suc n) h = All-cons P (f from) (map f (count_up (suc from) n)) (h from (omega arith) (omega arith)) (All-made P f (suc from) n (λ k le lt. h k (omega arith) (omega arith)))

pub labels-are : (m : Matrix) (mode : List ℕ) (p : Problem) → IsOfClasses (system_of m) p → AreLabelsOf p (labels_from m mode)
labels-are m mode p c = record {
  classes = All-made (λ (s : StateLabel). s.class < p.classes) (state_label m) 0 (state_count m) (λ k le lt. subst (λ n. class_of (system_of m) k < n) (sym c.classes) (class_of-there (system_of m) k (omega arith)));
  weights = λ k lt. weights-in m k (count_up 0 (state_count m)) ∙ sym (c.weight k lt);
  tests = sym c.tests;
  costs = λ t lt. sym (c.cost t lt);
}

-- there are no more ambiguity groups than states
pub firsts-few : (m : Matrix) → length (firsts (system_of m)) ≤ state_count m
firsts-few m =
    let parts = length-two_filters (is_first (system_of m)) (count_up 0 (state_count m)) in
    let all = length-count_up 0 (state_count m) in
    omega arith

-- A fault is detected exactly where its row isn't zero, since no row has a bit past the tests.
use Rattle.std.proofs.Common.{◌≡◌, ℕ, ◌<◌, List, length, get_or, replicate, refl, sym, ap, ◌∙◌, arith, inl, inr}
use Rattle.std.specs.Prelude.{Bool, true, false, not, ◌↔◌, IsTrue}
use Rattle.std.specs.List.{list_any}
use Rattle.std.proofs.lemmas.Bool.{cases_lt, cases_Bool, true≢false}
use Rattle.std.proofs.lemmas.List.{get_or_read}
use Rattle.std.proofs.lemmas.List.Elements.{All-from_get_or}
use Rattle.std.proofs.lemmas.List.Folds.{list_any_none, list_any_at}
use Rattle.seq_theory.specs.Problem.{count_up}
use Rattle.sig_matrix.specs.declared.matrix.Matrix.{Matrix}
use Rattle.sig_matrix.specs.declared.matrix.FaultRow.{FaultRow}
use Rattle.sig_matrix.specs.Detection.{detects, in_row, no_row, AreFourWords}
use Rattle.sig_matrix.specs.Valid.{IsValid}
use Rattle.seq_theory.proofs.BelowLaws.{length-count_up}
use Rattle.sig_figures.specs.Coverage.{is_seen}
use Rattle.sig_figures.proofs.UpTo.{up-at}
use Rattle.sig_figures.proofs.Words.{zero-row, row-from_clear}

-- below a number none passes where each fails
any-none : (p : ℕ → Bool) (n : ℕ) → ((k : ℕ) → p k ≡ false) → list_any p (count_up 0 n) ≡ false
any-none p n each = list_any_none p (count_up 0 n) (All-from_get_or (λ k. p k ≡ false) (count_up 0 n) 0 (λ i lt. each (get_or (count_up 0 n) i 0)))

any-each : (p : ℕ → Bool) (n k : ℕ) → k < n → list_any p (count_up 0 n) ≡ false → p k ≡ false
any-each p n k lt none = elim (cases_Bool (p k)) [
  | inl y ↦
      (let long = length-count_up 0 n in
      let here : p (get_or (count_up 0 n) k 0) ≡ true = ap p (up-at n k 0 lt) ∙ y in
      absurd (true≢false (sym (list_any_at p (count_up 0 n) k 0 (omega arith) here) ∙ none)))
  | inr y ↦ y
]

-- a fault as it is read
pub fault-read : (matrix : Matrix) (faults : List FaultRow) (fault : ℕ) (found : FaultRow) → faults ≡ matrix.faults → fault < length faults → found ≡ get_or faults fault found → get_or faults fault found ≡ get_or matrix.faults fault no_row
fault-read matrix faults fault found are lt read = sym read ∙ get_or_read faults fault found lt read no_row ∙ ap (λ l. get_or l fault no_row) are

module _ (matrix : Matrix) (valid : IsValid matrix) (fault : ℕ) (there : fault < length matrix.faults) (row : List ℕ) (is : row ≡ (get_or matrix.faults fault no_row).row) where
  unseen-from_zero : row ≡ replicate {A = ℕ} 4 0 → is_seen matrix fault ≡ false
  unfolding is_seen
  unseen-from_zero z = any-none (detects matrix fault) (length matrix.tests) (λ k. ap (λ r. in_row r k) (sym is ∙ z) ∙ zero-row k)

  zero-from_unseen : AreFourWords row → is_seen matrix fault ≡ false → row ≡ replicate {A = ℕ} 4 0
  unfolding is_seen
  zero-from_unseen four none = row-from_clear row four (λ t lt. ap (λ r. in_row r t) is ∙ clear t lt)
    where
      clear : (t : ℕ) → t < 256 → detects matrix fault t ≡ false
      clear t lt = elim (cases_lt t (length matrix.tests)) [
        | inl below ↦ any-each (detects matrix fault) (length matrix.tests) t below none
        | inr past ↦ valid.nothing_else fault t there past lt
      ]

  pub seen-decides : (zero : Bool) → AreFourWords row → IsTrue zero ↔ (row ≡ replicate {A = ℕ} 4 0) → not zero ≡ is_seen matrix fault
  seen-decides true four h = sym (unseen-from_zero (h.0 refl))
  seen-decides false four h = elim (cases_Bool (is_seen matrix fault)) [
    | inl y ↦ sym y
    | inr y ↦ absurd (true≢false (sym (h.1 (zero-from_unseen four y))))
  ]

-- A flat model has one matrix: four words are told by their bits, and each bit of a row is told.
use Rattle.std.proofs.Common.{◌≡◌, ℕ, ◌+◌, ◌*◌, ◌/◌, ◌%◌, ◌<◌, List, length, get_or, refl, sym, ap, ◌∙◌, arith, inl, inr}
use Rattle.std.specs.Prelude.{Bool, true, false, nat_eq, Option}
use Rattle.std.specs.Int.{bit_at}
use Rattle.std.proofs.lemmas.Bool.{cases_Bool, cases_lt, eqb-true, true≢false}
use Rattle.std.proofs.lemmas.List.{ext_get_or}
use Rattle.std.proofs.lemmas.Nat.Bits.{bit_at-lt, same_from_bits_below}
use Rattle.sig_types.specs.Sets.{has_bit}
use Rattle.sig_flat.specs.declared.flat.Flat.{Flat}
use Rattle.sig_lines.specs.declared.labels.TestLabel.{TestLabel}
use Rattle.sig_matrix.specs.declared.matrix.Matrix.{Matrix}
use Rattle.sig_matrix.specs.declared.matrix.FaultRow.{FaultRow}
use Rattle.sig_matrix.specs.Detection.{IsMatrixOf, IsRowOf, IsLabelOf, AreFourWords, taken, detects, in_row, no_row, no_label, no_fault, no_test}
use Rattle.sig_matrix.specs.Laws.{HasOneMatrix}
use Rattle.sig_matrix.proofs.DetectionLaws.{AllZip-long, AllZip-at}

same-answer : (x y : Bool) → (x ≡ true → y ≡ true) → (y ≡ true → x ≡ true) → x ≡ y
same-answer true y h k = sym (h refl)
same-answer false true h k = k refl
same-answer false false h k = refl

same-bit : (x y i : ℕ) → has_bit x i ≡ has_bit y i → bit_at x i ≡ bit_at y i
same-bit x y i e = elim (cases_Bool (has_bit x i)) [
  | inl one ↦ (let p = eqb-true (bit_at x i) 1 one in let q = eqb-true (bit_at y i) 1 (sym e ∙ one) in p ∙ sym q)
  | inr none ↦ (let p = clear x none in let q = clear y (sym e ∙ none) in p ∙ sym q)
]
  where
    clear : (w : ℕ) → has_bit w i ≡ false → bit_at w i ≡ 0
    clear w none = let lt = bit_at-lt w i in elim (cases_lt (bit_at w i) 1) [
      | inl low ↦ omega arith
      | inr high ↦ (let one : bit_at w i ≡ 1 = omega arith in absurd (true≢false (sym (ap (λ b. nat_eq b 1) one) ∙ none)))
    ]

-- rows with the same bits are the same
rows-same : (a b : List ℕ) → AreFourWords a → AreFourWords b → ((t : ℕ) → t < 256 → in_row a t ≡ in_row b t) → a ≡ b
rows-same a b wa wb agree = ext_get_or 0 a b (wa.four ∙ sym wb.four) (λ k lt. word k (let four = wa.four in omega arith))
  where
    bit : (k i : ℕ) → k < 4 → i < 64 → has_bit (get_or a k 0) i ≡ has_bit (get_or b k 0) i
    bit k i lt below =
        let quotient : (64 * k + i) / 64 ≡ k = omega arith in
        let rest : (64 * k + i) % 64 ≡ i = omega arith in
        let in_range : 64 * k + i < 256 = omega arith in
        ap (λ q. has_bit (get_or a q 0) i) (sym quotient)
        ∙ ap (λ r. has_bit (get_or a ((64 * k + i) / 64) 0) r) (sym rest)
        ∙ agree (64 * k + i) in_range
        ∙ ap (λ r. has_bit (get_or b ((64 * k + i) / 64) 0) r) rest
        ∙ ap (λ q. has_bit (get_or b q 0) i) quotient

    word : (k : ℕ) → k < 4 → get_or a k 0 ≡ get_or b k 0
    word k lt = same_from_bits_below 64 (get_or a k 0) (get_or b k 0) (wa.words k lt) (wb.words k lt) (λ i below. same-bit (get_or a k 0) (get_or b k 0) i (bit k i lt below))

abbrev made_row : ℕ → List ℕ → List ℕ → FaultRow
made_row weight label row = record { weight = weight; label = label; row = row }

abbrev made_label : ℕ → List ℕ → TestLabel
made_label cost label = record { cost = cost; label = label }

abbrev made : ℕ → List FaultRow → List TestLabel → Matrix
made good faults tests = record { good = good; faults = faults; tests = tests }

same-fault : (x y : FaultRow) → x.weight ≡ y.weight → x.label ≡ y.label → x.row ≡ y.row → x ≡ y
same-fault x y w l r = ap (λ n. made_row n x.label x.row) w ∙ ap (λ n. made_row y.weight n x.row) l ∙ ap (λ n. made_row y.weight y.label n) r

same-label : (x y : TestLabel) → x.cost ≡ y.cost → x.label ≡ y.label → x ≡ y
same-label x y c l = ap (λ n. made_label n x.label) c ∙ ap (λ n. made_label y.cost n) l

module _ (flat : Flat) (mode : Option ℕ) (a b : Matrix) (ha : IsMatrixOf flat mode a) (hb : IsMatrixOf flat mode b) where
  faults_a : length flat.faults ≡ length a.faults
  faults_a = AllZip-long IsRowOf flat.faults a.faults ha.faults

  faults_b : length flat.faults ≡ length b.faults
  faults_b = AllZip-long IsRowOf flat.faults b.faults hb.faults

  tests_a : length (taken mode flat.tests) ≡ length a.tests
  tests_a = AllZip-long IsLabelOf (taken mode flat.tests) a.tests ha.tests

  tests_b : length (taken mode flat.tests) ≡ length b.tests
  tests_b = AllZip-long IsLabelOf (taken mode flat.tests) b.tests hb.tests

  agree : (f t : ℕ) → f < length flat.faults → t < 256 → detects a f t ≡ detects b f t
  agree f t lf lt =
      let la = tests_a in
      let lb = tests_b in
      elim (cases_lt t (length a.tests)) [
        | inl test ↦
            (let da = ha.detected f t lf test in
            let db = hb.detected f t lf (omega arith) in
            same-answer (detects a f t) (detects b f t) (λ x. db.1 (da.0 x)) (λ y. da.1 (db.0 y)))
        | inr past ↦ ha.nothing_else f t lf past lt ∙ sym (hb.nothing_else f t lf (omega arith) lt)
      ]

  fault-same : (f : ℕ) → f < length a.faults → get_or a.faults f no_row ≡ get_or b.faults f no_row
  fault-same f la =
      let many = faults_a in
      let lf : f < length flat.faults = omega arith in
      let ra = AllZip-at IsRowOf flat.faults a.faults f no_fault no_row ha.faults lf in
      let rb = AllZip-at IsRowOf flat.faults b.faults f no_fault no_row hb.faults lf in
      same-fault (get_or a.faults f no_row) (get_or b.faults f no_row) (ra.weight ∙ sym rb.weight) (ra.label ∙ sym rb.label)
      (rows-same (get_or a.faults f no_row).row (get_or b.faults f no_row).row (ha.words f lf) (hb.words f lf) (λ t lt. agree f t lf lt))

  test-same : (t : ℕ) → t < length a.tests → get_or a.tests t no_label ≡ get_or b.tests t no_label
  test-same t la =
      let many = tests_a in
      let lt : t < length (taken mode flat.tests) = omega arith in
      let ra = AllZip-at IsLabelOf (taken mode flat.tests) a.tests t no_test no_label ha.tests lt in
      let rb = AllZip-at IsLabelOf (taken mode flat.tests) b.tests t no_test no_label hb.tests lt in
      same-label (get_or a.tests t no_label) (get_or b.tests t no_label) (ra.cost ∙ sym rb.cost) (ra.label ∙ sym rb.label)

  same-matrix : a ≡ b
  same-matrix =
      ap (λ n. made n a.faults a.tests) (ha.good ∙ sym hb.good)
      ∙ ap (λ l. made b.good l a.tests) (ext_get_or no_row a.faults b.faults (sym faults_a ∙ faults_b) fault-same)
      ∙ ap (λ l. made b.good b.faults l) (ext_get_or no_label a.tests b.tests (sym tests_a ∙ tests_b) test-same)

pub one-matrix : HasOneMatrix
one-matrix flat mode matrix other h k = same-matrix flat mode matrix other h k

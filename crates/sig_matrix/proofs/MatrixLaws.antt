-- Rows, faults and tests make the matrix of a flat model, and that matrix is valid.
use Rattle.std.proofs.Common.{◌≡◌, ℕ, zero, suc, ◌+◌, ◌<◌, ◌≤◌, List, [], ◌∷◌, map, length, get_or, refl, sym, ap, ◌∙◌, arith, inl, inr, subst}
use Rattle.std.specs.Prelude.{All, Bool, true, filter, nat_eq, cond, Option, ◌↔◌}
use Rattle.std.specs.List.{AllZip, Contains}
use Rattle.std.proofs.lemmas.Bool.{cases_Bool, eqb-true}
use Rattle.std.proofs.lemmas.List.Elements.{All-get_or, Contains-get_or}
use Rattle.sig_flat.specs.declared.flat.Flat.{Flat}
use Rattle.sig_flat.specs.declared.flat.FlatTest.{FlatTest}
use Rattle.sig_matrix.specs.declared.matrix.Matrix.{Matrix}
use Rattle.sig_matrix.specs.declared.matrix.FaultRow.{FaultRow}
use Rattle.sig_matrix.specs.Detection.{AreFourWords, Detects, IsMatrixOf, IsRowOf, IsLabelOf, is_taken, taken, test_at, fault_at, no_row, no_label, no_fault, no_test, in_row, detects, state_count}
use Rattle.sig_matrix.specs.Filling.{AreRows, is_set}
use Rattle.sig_matrix.specs.Valid.{IsValid}
use Rattle.sig_matrix.proofs.DetectionLaws.{AllZip-long, AllZip-at}

-- no more tests are taken than there are
pub taken-few : {A : Type 0} (p : A → Bool) (xs : List A) → length (filter p xs) ≤ length xs
taken-few p [] = omega arith
taken-few p (x ∷ xs) = let rest = taken-few p xs in elim (cases_Bool (p x)) [
  | inl y ↦ (let e = ap (λ b. length (cond b (x ∷ filter p xs) (filter p xs))) y in omega arith)
  | inr n ↦ (let e = ap (λ b. length (cond b (x ∷ filter p xs) (filter p xs))) n in omega arith)
]

-- what stands behind the first of a list stands in the list
Contains-behind : {A : Type 0} (x : A) (xs : List A) (y : A) → Contains xs y → Contains (x ∷ xs) y
Contains-behind x xs y (k, lt, e) = (suc k, omega arith, e)

-- it is the first, or stands behind
first-or_behind : {A : Type 0} (x : A) (xs ys : List A) (y : A) → (Contains xs y → Contains ys y) → Contains (x ∷ xs) y → Contains (x ∷ ys) y
first-or_behind x xs ys y more (zero, lt, e) = (zero, omega arith, e)
first-or_behind x xs ys y more (suc k, lt, e) = Contains-behind x ys y (more (k, omega arith, e))

-- what a filter keeps was there
Contains-filter : {A : Type 0} (p : A → Bool) (xs : List A) (y : A) → Contains (filter p xs) y → Contains xs y
Contains-filter p [] y c = c
Contains-filter p (x ∷ xs) y c = elim (cases_Bool (p x)) [
  | inl keeps ↦ first-or_behind x (filter p xs) xs y (Contains-filter p xs y) (subst (λ b. Contains (cond b (x ∷ filter p xs) (filter p xs)) y) keeps c)
  | inr drops ↦ Contains-behind x xs y (Contains-filter p xs y (subst (λ b. Contains (cond b (x ∷ filter p xs) (filter p xs)) y) drops c))
]

-- what is taken at a place stands among all
pub taken-there : {A : Type 0} (p : A → Bool) (xs : List A) (t : ℕ) (d : A) → t < length (filter p xs) → Contains xs (get_or (filter p xs) t d)
taken-there p xs t d lt = Contains-filter p xs (get_or (filter p xs) t d) (Contains-get_or (filter p xs) t d lt)

-- the rows of the faults, read off the matrix
rows-read : (faults : List FaultRow) (f : ℕ) → get_or (map (λ (r : FaultRow). r.row) faults) f [] ≡ (get_or faults f no_row).row
rows-read [] f = refl
rows-read (r ∷ faults) zero = refl
rows-read (r ∷ faults) (suc f) = rows-read faults f

pub matrix-from_parts : (flat : Flat) (mode : Option ℕ) (matrix : Matrix) (tests : List FlatTest) (rows : List (List ℕ)) → tests ≡ taken mode flat.tests → matrix.good ≡ flat.good → AllZip IsRowOf flat.faults matrix.faults
    → map (λ (r : FaultRow). r.row) matrix.faults ≡ rows → AllZip IsLabelOf tests matrix.tests → AreRows flat tests (λ t. true) rows → All (λ (r : FaultRow). AreFourWords r.row) matrix.faults → IsMatrixOf flat mode matrix
matrix-from_parts flat mode matrix tests rows is good faults same labels h four = record {
  good = good;
  faults = faults;
  tests = subst (λ l. AllZip IsLabelOf l matrix.tests) is labels;
  detected = λ f t lf lt.
      let many = long in
      subst (λ b. (b ≡ true) ↔ Detects flat (fault_at flat f) (test_at (taken mode flat.tests) t)) (read f t)
      (subst (λ l. (is_set rows f t ≡ true) ↔ Detects flat (fault_at flat f) (test_at l t)) is (h.filled f t lf (omega arith) refl));
  nothing_else = λ f t lf le lt. let many = long in sym (read f t) ∙ h.past f t lf (omega arith) lt;
  words = λ f lf. let many = AllZip-long IsRowOf flat.faults matrix.faults faults in All-get_or (λ (r : FaultRow). AreFourWords r.row) matrix.faults f no_row (omega arith) four;
}
  where
    read : (f t : ℕ) → is_set rows f t ≡ detects matrix f t
    read f t = ap (λ row. in_row row t) (ap (λ l. get_or l f []) (sym same) ∙ rows-read matrix.faults f)

    long : length tests ≡ length matrix.tests
    long = AllZip-long IsLabelOf tests matrix.tests labels

pub valid-from_matrix : (flat : Flat) (mode : Option ℕ) (matrix : Matrix) → IsMatrixOf flat mode matrix → IsValid matrix
valid-from_matrix flat mode matrix h = record {
  some = some;
  many = many;
  good = subst (λ n. n ≤ 1000000) (sym h.good) flat.valid.good;
  faults = (let few = flat.valid.faults in let many = long_faults in omega arith);
  tests = (let many = long_tests in let all = flat.valid.tests in let few = taken-few (is_taken mode) flat.tests in omega arith);
  weights = λ f lf.
      let many = long_faults in
      let lt : f < length flat.faults = omega arith in
      let r = AllZip-at IsRowOf flat.faults matrix.faults f no_fault no_row h.faults lt in
      let p = flat.valid.fault_parts (fault_at flat f) (Contains-get_or flat.faults f no_fault lt) in
      subst (λ w. (1 ≤ w) × (w ≤ 1000000)) (sym r.weight) (p.1, p.2);
  costs = λ t lt.
      let many = long_tests in
      let here : t < length (taken mode flat.tests) = omega arith in
      let r = AllZip-at IsLabelOf (taken mode flat.tests) matrix.tests t no_test no_label h.tests here in
      let p = flat.valid.test_points (test_at (taken mode flat.tests) t) (taken-there (is_taken mode) flat.tests t no_test here) in
      subst (λ k. (1 ≤ k) × (k ≤ 1000000)) (sym r.cost) (p.2, p.3);
  nothing_else = λ f t lf le lt. let many = long_faults in h.nothing_else f t (omega arith) le lt;
}
  where
    long_faults : length flat.faults ≡ length matrix.faults
    long_faults = AllZip-long IsRowOf flat.faults matrix.faults h.faults

    long_tests : length (taken mode flat.tests) ≡ length matrix.tests
    long_tests = AllZip-long IsLabelOf (taken mode flat.tests) matrix.tests h.tests

    many : state_count matrix ≤ 4097
    many =
        let faults = flat.valid.faults in
        let as_many = long_faults in
        elim (cases_Bool (nat_eq matrix.good 0)) [ inl none ↦ rw none (omega arith) | inr some_good ↦ rw some_good (omega arith) ]

    some : 1 ≤ state_count matrix
    some =
        let many = long_faults in
        elim (cases_Bool (nat_eq matrix.good 0)) [
          | inl y ↦
              (let none = eqb-true matrix.good 0 y in
              let e = h.good in
              let some_state = flat.valid.state in
              omega arith)
          | inr n ↦ (let e : state_count matrix ≡ 1 + length matrix.faults = ap (λ b. cond b 0 1 + length matrix.faults) n in omega arith)
        ]

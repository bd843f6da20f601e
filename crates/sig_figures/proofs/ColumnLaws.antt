-- What is gathered over the rows: which tests detect a fault, and which detect others than one test does.
use Rattle.std.proofs.Common.{◌≡◌, ℕ, zero, suc, ◌+◌, ◌<◌, List, length, get_or, replicate, refl, sym, ap, ◌∙◌, arith}
use Rattle.std.specs.Prelude.{Bool, true, false, cond, not, ◌||◌, ◌&&◌, find, Some}
use Rattle.std.specs.List.{list_any, list_all}
use Rattle.seq_theory.specs.Problem.{count_up}
use Rattle.seq_theory.specs.States.{same}
use Rattle.sig_matrix.specs.declared.matrix.Matrix.{Matrix}
use Rattle.sig_matrix.specs.Detection.{detects, in_row, no_row}
use Rattle.sig_figures.specs.Coverage.{sees_fault}
use Rattle.sig_figures.specs.Columns.{same_column, earlier_equal}
use Rattle.sig_figures.specs.Gathering.{AddsTests}
use Rattle.sig_figures.proofs.UpTo.{any-next, all-next}
use Rattle.sig_figures.proofs.Words.{zero-row, same-false}

-- the row has the tests that detect some of the faults below a number
pub record Sees (matrix : Matrix) (row : List ℕ) (n : ℕ) : Type 0 where
  pub tests : (test : ℕ) → test < 256 → in_row row test ≡ list_any (λ fault. detects matrix fault test) (count_up 0 n)

pub sees-none : (matrix : Matrix) → Sees matrix (replicate {A = ℕ} 4 0) 0
sees-none matrix = record { tests = λ test lt. zero-row test }

pub sees-more : (matrix : Matrix) (row new other : List ℕ) (n : ℕ) → other ≡ (get_or matrix.faults n no_row).row → Sees matrix row n → AddsTests row other false new → Sees matrix new (n + 1)
sees-more matrix row new other n is before adds = record {
  tests = λ test lt.
      let here : not (same (in_row other test) false) ≡ detects matrix n test = same-false (in_row other test) ∙ ap (λ r. in_row r test) is in
      adds.tests test lt ∙ ap (λ b. b || not (same (in_row other test) false)) (before.tests test lt) ∙ ap (λ b. list_any (λ fault. detects matrix fault test) (count_up 0 n) || b) here
      ∙ sym (any-next (λ fault. detects matrix fault test) n);
}

pub sees-all : (matrix : Matrix) (row : List ℕ) → Sees matrix row (length matrix.faults) → (test : ℕ) → test < 256 → in_row row test ≡ sees_fault matrix test
unfolding sees_fault
sees-all matrix row h = h.tests

-- the row has the tests that one of the faults below a number tells from this one
pub record Differs (matrix : Matrix) (test : ℕ) (row : List ℕ) (n : ℕ) : Type 0 where
  pub tests : (other : ℕ) → other < 256 → in_row row other ≡ not (list_all (λ fault. same (detects matrix fault other) (detects matrix fault test)) (count_up 0 n))

pub differs-none : (matrix : Matrix) (test : ℕ) → Differs matrix test (replicate {A = ℕ} 4 0) 0
differs-none matrix test = record { tests = λ other lt. zero-row other }

not-and : (a b : Bool) → (not a || not b) ≡ not (a && b)
not-and true b = refl
not-and false b = refl

pub differs-more : (matrix : Matrix) (test : ℕ) (row new words : List ℕ) (n : ℕ) → words ≡ (get_or matrix.faults n no_row).row → Differs matrix test row n → AddsTests row words (detects matrix n test) new → Differs matrix test new (n + 1)
differs-more matrix test row new words n is before adds = record {
  tests = λ other lt.
      let alike : ℕ → Bool = λ fault. same (detects matrix fault other) (detects matrix fault test) in
      let here : not (same (in_row words other) (detects matrix n test)) ≡ not (alike n) = ap (λ r. not (same (in_row r other) (detects matrix n test))) is in
      adds.tests other lt ∙ ap (λ b. b || not (same (in_row words other) (detects matrix n test))) (before.tests other lt) ∙ ap (λ b. not (list_all alike (count_up 0 n)) || b) here
      ∙ not-and (list_all alike (count_up 0 n)) (alike n) ∙ ap not (sym (all-next alike n));
}

pub differs-all : (matrix : Matrix) (test : ℕ) (row : List ℕ) → Differs matrix test row (length matrix.faults) → (other : ℕ) → other < 256 → in_row row other ≡ not (same_column matrix other test)
unfolding same_column
differs-all matrix test row h = h.tests

-- the first clear test is the first equal one
find-agree : (p q : ℕ → Bool) (from n : ℕ) → ((k : ℕ) → k < from + n → p k ≡ q k) → find p (count_up from n) ≡ find q (count_up from n)
find-agree p q from zero each = refl
find-agree p q from (suc n) each =
    ap (λ b. cond b (Some from) (find p (count_up (suc from) n))) (each from (omega arith))
    ∙ ap (λ o. cond (q from) (Some from) o) (find-agree p q (suc from) n (λ k lt. each k (omega arith)))

not-not : (b : Bool) → not (not b) ≡ b
not-not true = refl
not-not false = refl

pub first-equal : (matrix : Matrix) (test : ℕ) (row : List ℕ) → test < 256 → ((other : ℕ) → other < 256 → in_row row other ≡ not (same_column matrix other test)) → find (λ t. not (in_row row t)) (count_up 0 test) ≡ earlier_equal matrix test
unfolding earlier_equal
first-equal matrix test row lt h = find-agree (λ t. not (in_row row t)) (λ earlier. same_column matrix earlier test) 0 test (λ k below. ap not (h k (omega arith)) ∙ not-not (same_column matrix k test))

-- Sums of lists in upward order, and a bound on Huffman's cost.
use Rattle.std.proofs.Common.{◌≡◌, ℕ, zero, suc, ◌+◌, ◌*◌, ◌≤◌, List, [], ◌∷◌, refl, sym, ap, ◌∙◌, arith, inl, inr}
use Rattle.std.specs.Prelude.{sum}
use Rattle.std.proofs.lemmas.List.Sums.{sum_by-cons}
use Rattle.std.proofs.lemmas.Bool.{le-leb, lt-leb, cases_lt}
use Rattle.seq_theory.specs.Huffman.{place_in, upward, merging}

sum-cons : (x : ℕ) (xs : List ℕ) → sum (x ∷ xs) ≡ x + sum xs
sum-cons x xs = sum_by-cons (λ n. n) x xs

pub sum-place : (n : ℕ) (xs : List ℕ) → sum (place_in n xs) ≡ n + sum xs
sum-place n [] = sum-cons n []
sum-place n (x ∷ xs) = elim (cases_lt x n) [
  | inl lt ↦ rw (lt-leb n x lt) (omega (arith, sum-cons x (place_in n xs), sum-cons x xs, sum-place n xs))
  | inr ge ↦ rw (le-leb n x ge) (sum-cons n (x ∷ xs))
]

pub sum-upward : (xs : List ℕ) → sum (upward xs) ≡ sum xs
sum-upward [] = refl
sum-upward (x ∷ xs) = sum-place x (upward xs) ∙ ap (λ n. x + n) (sum-upward xs) ∙ sym (sum-cons x xs)

pub merging-le : (k : ℕ) (xs : List ℕ) → merging k xs ≤ k * sum xs
merging-le zero xs = omega arith
merging-le (suc k) [] = omega arith
merging-le (suc k) (x ∷ []) = omega arith
merging-le (suc k) (x ∷ y ∷ xs) =
    let f = merging-le k (place_in (x + y) xs) in
    let s = sum-place (x + y) xs in
    let c1 = sum-cons x (y ∷ xs) in
    let c2 = sum-cons y xs in
    let e : sum (place_in (x + y) xs) ≡ sum (x ∷ y ∷ xs) = omega arith in
    let e2 = ap (λ n. k * n) e in
    omega arith

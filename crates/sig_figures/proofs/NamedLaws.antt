-- What the figures name is there: each list is a part of the numbers of faults, tests or nodes.
use Rattle.std.proofs.Common.{◌≡◌, ℕ, zero, suc, ◌+◌, ◌<◌, ◌≤◌, List, length, get_or, refl, sym, arith, subst}
use Rattle.std.specs.Prelude.{Option, Some, None, not, All}
use Rattle.std.specs.List.{filter_map, cons_option}
use Rattle.std.specs.Option.{option_map}
use Rattle.std.proofs.lemmas.List.Elements.{All-nil, All-cons, All-filter, All-from_get_or, Contains-get_or}
use Rattle.seq_theory.specs.Problem.{count_up}
use Rattle.sig_flat.specs.declared.flat.Flat.{Flat}
use Rattle.sig_matrix.specs.declared.matrix.Matrix.{Matrix}
use Rattle.sig_figures.specs.declared.summary.Figures.{Figures}
use Rattle.sig_figures.specs.declared.summary.EqualTest.{EqualTest}
use Rattle.sig_figures.specs.Coverage.{is_seen, sees_fault}
use Rattle.sig_figures.specs.Columns.{same_column, earlier_equal, paired}
use Rattle.sig_figures.specs.Figures.{AreFigures, IsPairOf, AreNamed}
use Rattle.sig_figures.proofs.UpTo.{below-end, find-below}

first-below : (matrix : Matrix) (test first : ℕ) → earlier_equal matrix test ≡ Some first → first < test
unfolding earlier_equal
first-below matrix test first e = let h = find-below (λ earlier. same_column matrix earlier test) 0 test first e in omega arith

-- both tests of each pair
pairs-from : (matrix : Matrix) (from n : ℕ) → from + n ≤ length matrix.tests → All (IsPairOf matrix) (filter_map (λ test. option_map (paired test) (earlier_equal matrix test)) (count_up from n))
pairs-from matrix from zero le = All-nil (IsPairOf matrix)
pairs-from matrix from (suc n) le = one (earlier_equal matrix from) (λ first e. first-below matrix from first e) (filter_map (λ test. option_map (paired test) (earlier_equal matrix test)) (count_up (suc from) n)) (pairs-from matrix (suc from) n (omega arith))
  where
    one : (o : Option ℕ) → ((first : ℕ) → o ≡ Some first → first < from) → (rest : List EqualTest) → All (IsPairOf matrix) rest → All (IsPairOf matrix) (cons_option (option_map (paired from) o) rest)
    one None below rest h = h
    one (Some first) below rest h = All-cons (IsPairOf matrix) (paired from first) rest (omega arith, (let lt = below first refl in omega arith)) h

pub figures-named : (flat : Flat) (mode : Option ℕ) (matrix : Matrix) (figures : Figures) → AreFigures flat mode matrix figures → AreNamed flat matrix figures
figures-named flat mode matrix figures are = record {
  undetected = subst (All (λ fault. fault < length matrix.faults)) (sym are.undetected) (All-filter (λ fault. not (is_seen matrix fault)) (λ fault. fault < length matrix.faults) (count_up 0 (length matrix.faults)) (below-end (length matrix.faults)));
  blind = subst (All (λ test. test < length matrix.tests)) (sym are.blind) (All-filter (λ test. not (sees_fault matrix test)) (λ test. test < length matrix.tests) (count_up 0 (length matrix.tests)) (below-end (length matrix.tests)));
  equal = subst (All (IsPairOf matrix)) (sym are.equal) (pairs-from matrix 0 (length matrix.tests) (omega arith));
  looped = All-from_get_or (λ node. node < length flat.nodes) figures.looped 0 (λ i lt. are.looped.there (get_or figures.looped i 0) (Contains-get_or figures.looped i 0 lt));
}

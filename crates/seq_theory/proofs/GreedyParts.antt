-- The greedy strategy of a group is made from those of its parts by the greedy test; it asks only tests that split what
-- reaches them, so it is small.
use Rattle.std.proofs.Common.{◌≡◌, ℕ, zero, suc, ◌+◌, ◌*◌, ◌<◌, ◌≤◌, List, [], length, refl, sym, ap, ◌∙◌, arith, subst, inl, inr}
use Rattle.std.proofs.lemmas.Bool.{cases_Bool}
use Rattle.std.specs.Prelude.{true, false}
use Rattle.seq_theory.specs.Problem.{Problem, IsIn, IsWithin, IsSized, AreTold, is_end, splitting, pass_part, fail_part, fails, weight_of}
use Rattle.seq_theory.specs.Tree.{Tree, ask, tree_cost}
use Rattle.seq_theory.specs.Greedy.{greedy_test, greedy, greedy_cost}
use Rattle.seq_theory.specs.Shapes.{leaf_count, AsksSplitting}
use Rattle.seq_theory.proofs.GreedyLaws.{greedy_test_splits, greedy-end, greedy-more, part-within, greedy-cheap}
use Rattle.seq_theory.proofs.PartsRecursion.{splitting-splits, splitting-there}
use Rattle.seq_theory.proofs.GroupLaws.{pass_part_smaller, fail_part_smaller}
use Rattle.seq_theory.proofs.CostLaws.{tree_cost-leaf, tree_cost-ask}
use Rattle.seq_theory.proofs.BelowLaws.{product-le}
use Rattle.seq_theory.proofs.ShapeLaws.{leaves-le}

pub cost-end : (p : Problem) (group : List ℕ) → AreTold p → IsWithin p group → is_end p group ≡ true → 0 ≡ greedy_cost p group
cost-end p group told within e = sym (ap (λ t. tree_cost p t group) (greedy-end p group told within e) ∙ tree_cost-leaf p group)

-- what the parts of the greedy test are
pub record GreedyParts (p : Problem) (group pass fail : List ℕ) (test : ℕ) : Type 0 where
  pub there : test < p.tests
  pub pass_within : IsWithin p pass
  pub fail_within : IsWithin p fail
  pub pass_smaller : length pass < length group
  pub fail_smaller : length fail < length group
  pub tree : greedy p group ≡ ask test (greedy p pass) (greedy p fail)
  pub cost : greedy_cost p group ≡ p.cost test * weight_of p group + (greedy_cost p pass + greedy_cost p fail)

pub greedy_there : (p : Problem) (group : List ℕ) (test : ℕ) → AreTold p → IsWithin p group → is_end p group ≡ false → test ≡ greedy_test p group → test < p.tests
greedy_there p group test told within e is = subst (λ t. t < p.tests) (sym is) (splitting-there p group (greedy_test p group) (greedy_test_splits p group told within e))

pub greedy_parts : (p : Problem) (group pass fail : List ℕ) (test : ℕ) → AreTold p → IsWithin p group → is_end p group ≡ false → test ≡ greedy_test p group → pass ≡ pass_part p test group → fail ≡ fail_part p test group → GreedyParts p group pass fail test
greedy_parts p group pass fail test told within e is pe fe =
    let i = subst (λ t. IsIn t (splitting p group)) (sym is) (greedy_test_splits p group told within e) in
    let s = splitting-splits p group test i in
    let t = greedy-more p group told within e ∙ ap (λ u. ask u (greedy p (pass_part p u group)) (greedy p (fail_part p u group))) (sym is) in
    record {
      there = splitting-there p group test i;
      pass_within = subst (IsWithin p) (sym pe) (part-within p (p.passes test) group within);
      fail_within = subst (IsWithin p) (sym fe) (part-within p (fails p test) group within);
      pass_smaller = (let l = ap length pe in omega (arith, pass_part_smaller p test group s));
      fail_smaller = (let l = ap length fe in omega (arith, fail_part_smaller p test group s));
      tree = t ∙ ap (λ x. ask test x (greedy p (fail_part p test group))) (sym (ap (greedy p) pe)) ∙ ap (λ x. ask test (greedy p pass) x) (sym (ap (greedy p) fe));
      cost = ap (λ u. tree_cost p u group) t ∙ tree_cost-ask p test (greedy p (pass_part p test group)) (greedy p (fail_part p test group)) group
          ∙ ap (λ x. p.cost test * weight_of p group + (x + greedy_cost p (fail_part p test group))) (sym (ap (greedy_cost p) pe))
          ∙ ap (λ x. p.cost test * weight_of p group + (greedy_cost p pass + x)) (sym (ap (greedy_cost p) fe));
    }

module _ (p : Problem) where
  splitting-step : (group : List ℕ) → AreTold p → IsWithin p group → ((part : List ℕ) → length part < length group → IsWithin p part → AsksSplitting p (greedy p part) part) → AsksSplitting p (greedy p group) group
  splitting-step group told within below = elim (cases_Bool (is_end p group)) [
    | inl e ↦ subst (λ t. AsksSplitting p t group) (sym (greedy-end p group told within e)) tt
    | inr e ↦
        (let t = greedy_test p group in
        let s = splitting-splits p group t (greedy_test_splits p group told within e) in
        subst (λ t. AsksSplitting p t group) (sym (greedy-more p group told within e)) (
          s,
          below (pass_part p t group) (pass_part_smaller p t group s) (part-within p (p.passes t) group within),
          below (fail_part p t group) (fail_part_smaller p t group s) (part-within p (fails p t) group within),
        ))
  ]

  splitting-to : (n : ℕ) (group : List ℕ) → length group ≤ n → AreTold p → IsWithin p group → AsksSplitting p (greedy p group) group
  splitting-to zero group le told within = splitting-step group told within (λ part lt w. absurd (let bad : ⊥ = omega arith in bad))
  splitting-to (suc n) group le told within = splitting-step group told within (λ part lt w. splitting-to n part (omega arith) told w)

  pub greedy-splitting : (group : List ℕ) (tree : Tree) → AreTold p → IsWithin p group → tree ≡ greedy p group → AsksSplitting p tree group
  greedy-splitting group tree told within is = subst (λ t. AsksSplitting p t group) (sym is) (splitting-to (length group) group (let le : length group ≤ length group = omega arith in le) told within)

-- it has at most as many leaves as the group has classes, or one
pub greedy-leaves : (p : Problem) (group : List ℕ) → AreTold p → IsWithin p group → 1 ≤ length group → leaf_count (greedy p group) ≤ length group
greedy-leaves p group told within some = leaves-le p (greedy p group) group (greedy-splitting p group (greedy p group) told within refl) some

pub greedy-none : (p : Problem) → AreTold p → leaf_count (greedy p []) ≡ 1
greedy-none p told = ap leaf_count (greedy-end p [] told (λ c i. absurd i) refl)

-- and costs little
pub greedy-small : (p : Problem) (group : List ℕ) → IsSized p → AreTold p → IsWithin p group → weight_of p group ≤ 4097000000 → length group ≤ 512 → greedy_cost p group ≤ 2097664000000000000
greedy-small p group sized told within light few =
    let f = greedy-cheap p 1000000 group sized.costs told within in
    let m = product-le (weight_of p group) (length group * 1000000) 4097000000 512000000 light (omega arith) in
    omega arith

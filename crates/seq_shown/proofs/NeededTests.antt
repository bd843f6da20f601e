-- The strategy of the entered groups asks where it has to: it ends at each group of one goal, and at each other asks a
-- test that is there and splits the group. By induction on the size of the group, first for the greedy strategy.
use Rattle.std.proofs.Common.{◌≡◌, ℕ, zero, suc, ◌<◌, ◌≤◌, List, length, refl, sym, subst, arith, inl, inr, Some}
use Rattle.std.specs.Prelude.{true, false}
use Rattle.std.proofs.lemmas.Bool.{cases_Bool, cases_eq}
use Rattle.seq_theory.specs.Problem.{Problem, IsWithin, AreTold, fails, pass_part, fail_part, splits, is_end}
use Rattle.seq_theory.specs.Tree.{Tree, leaf, ask}
use Rattle.seq_theory.specs.Greedy.{greedy, greedy_test, greedy_cost}
use Rattle.seq_theory.specs.Graph.{val, value_test, strat}
use Rattle.seq_theory.proofs.GroupLaws.{pass_part_smaller, fail_part_smaller}
use Rattle.seq_theory.proofs.GreedyLaws.{greedy_test_splits, greedy-end, greedy-more, part-within}
use Rattle.seq_theory.proofs.PartsRecursion.{splitting-splits, splitting-there}
use Rattle.seq_theory.proofs.StratParts.{value_parts, strat-end, strat-greedy, strat-ask}

module _ (p : Problem) where
  -- a leaf at a group of one goal, and at any other a test that is there and splits it
  abbrev pub AsksWhereNeeded : Tree → List ℕ → Type 0
  AsksWhereNeeded leaf group = is_end p group ≡ true
  AsksWhereNeeded (ask t pass fail) group = (is_end p group ≡ false) × (t < p.tests) × (splits p group t ≡ true) × AsksWhereNeeded pass (pass_part p t group) × AsksWhereNeeded fail (fail_part p t group)

  greedy-step : (group : List ℕ) → AreTold p → IsWithin p group → ((part : List ℕ) → length part < length group → IsWithin p part → AsksWhereNeeded (greedy p part) part) → AsksWhereNeeded (greedy p group) group
  greedy-step group told within below = elim (cases_Bool (is_end p group)) [
    | inl e ↦ subst (λ t. AsksWhereNeeded t group) (sym (greedy-end p group told within e)) e
    | inr e ↦
        (let t = greedy_test p group in
        let i = greedy_test_splits p group told within e in
        let s = splitting-splits p group t i in
        subst (λ t. AsksWhereNeeded t group) (sym (greedy-more p group told within e)) (
          e,
          splitting-there p group t i,
          s,
          below (pass_part p t group) (pass_part_smaller p t group s) (part-within p (p.passes t) group within),
          below (fail_part p t group) (fail_part_smaller p t group s) (part-within p (fails p t) group within),
        ))
  ]

  greedy-to : (n : ℕ) (group : List ℕ) → length group ≤ n → AreTold p → IsWithin p group → AsksWhereNeeded (greedy p group) group
  greedy-to zero group le told within = greedy-step group told within (λ part lt w. absurd (let bad : ⊥ = omega arith in bad))
  greedy-to (suc n) group le told within = greedy-step group told within (λ part lt w. greedy-to n part (omega arith) told w)

  module _ (entered : List (List ℕ)) where
    strat-step : (group : List ℕ) (v : ℕ) → AreTold p → IsWithin p group → val p entered group ≡ Some v → ((part : List ℕ) (u : ℕ) → length part < length group → IsWithin p part → val p entered part ≡ Some u → AsksWhereNeeded (strat p entered part) part) → AsksWhereNeeded (strat p entered group) group
    strat-step group v told within is below = elim (cases_Bool (is_end p group)) [
      | inl e ↦ subst (λ t. AsksWhereNeeded t group) (sym (strat-end p entered group within e)) e
      | inr e ↦ elim (cases_eq (greedy_cost p group) v) [
        | inl g ↦ subst (λ t. AsksWhereNeeded t group) (sym (strat-greedy p entered group v within e is g)) (greedy-to (length group) group (let le : length group ≤ length group = omega arith in le) told within)
        | inr dear ↦
            (let t = value_test p entered group in
            let h = value_parts p entered group v t within e is dear refl in
            subst (λ t. AsksWhereNeeded t group) (sym (strat-ask p entered group v t within e is dear refl)) (
              e,
              h.there,
              h.splits_it,
              below (pass_part p t group) (h.pass).value h.pass_smaller (h.pass).within (h.pass).value_is,
              below (fail_part p t group) (h.fail).value h.fail_smaller (h.fail).within (h.fail).value_is,
            ))
      ]
    ]

    strat-to : (n : ℕ) (group : List ℕ) (v : ℕ) → length group ≤ n → AreTold p → IsWithin p group → val p entered group ≡ Some v → AsksWhereNeeded (strat p entered group) group
    strat-to zero group v le told within is = strat-step group v told within is (λ part u lt w e. absurd (let bad : ⊥ = omega arith in bad))
    strat-to (suc n) group v le told within is = strat-step group v told within is (λ part u lt w e. strat-to n part u (omega arith) told w e)

    pub strat-needed : (group : List ℕ) (v : ℕ) → AreTold p → IsWithin p group → val p entered group ≡ Some v → AsksWhereNeeded (strat p entered group) group
    strat-needed group v = strat-to (length group) group v (let le : length group ≤ length group = omega arith in le)

-- The strategy of the entered groups, one test at a time: at a group that has a value, the lowest test that reaches the
-- value is there, splits the group, and both parts have values. So the strategy is its step from those of the parts, and
-- asks only tests that split what reaches them.
use Rattle.std.proofs.Common.{◌≡◌, ◌≢◌, ℕ, zero, suc, ◌*◌, ◌<◌, ◌≤◌, List, length, refl, sym, ap, ◌∙◌, arith, inl, inr, subst, Option, Some, None}
use Rattle.std.specs.Prelude.{true, false, IsSome}
use Rattle.std.proofs.lemmas.Bool.{cases_Bool, true≢false, false≢true, eqb-true, eq-eqb}
use Rattle.seq_theory.specs.Problem.{Problem, IsIn, IsWithin, AreTold, fails, pass_part, fail_part, splits, splitting, weight_of, is_end}
use Rattle.seq_theory.specs.Tree.{leaf, ask}
use Rattle.seq_theory.specs.Greedy.{greedy, greedy_cost}
use Rattle.seq_theory.specs.Graph.{is_entered, step_value, val, is_value, first_where, value_test, strat}
use Rattle.seq_theory.specs.Shapes.{AsksSplitting}
use Rattle.seq_theory.proofs.GroupLaws.{pass_part_smaller, fail_part_smaller}
use Rattle.seq_theory.proofs.PartsRecursion.{splitting-splits, splitting-there}
use Rattle.seq_theory.proofs.GreedyLaws.{part-within}
use Rattle.seq_theory.proofs.GreedyParts.{greedy-splitting}
use Rattle.seq_theory.proofs.ValLaws.{IsLeastValue, is_first, is_at, least_of-first, HasParts, sum_with-parts, val-end, val-entered, val-other, some-one}
use Rattle.seq_theory.proofs.StratLaws.{HasValue, first_where-finds, value-is, is-value, entered-value, strat-step}

pub not-value : (x v : ℕ) → x ≢ v → is_value (Some x) (Some v) ≡ false
not-value x v ne = elim (cases_Bool (is_value (Some x) (Some v))) [ inl y ↦ absurd (ne (eqb-true x v y)) | inr n ↦ n ]

pub the-value : (o : Option ℕ) → IsSome o → (v : ℕ) × (o ≡ Some v)
the-value None h = absurd (false≢true h)
the-value (Some v) h = (v, refl)

module _ (p : Problem) (entered : List (List ℕ)) where
  -- a test that is there, splits the group, and whose parts have values that reach the group's
  pub record Reaches (group : List ℕ) (v t : ℕ) : Type 0 where
    pub among : IsIn t (splitting p group)
    pub parts : HasParts (p.cost t * weight_of p group) (val p entered (pass_part p t group)) (val p entered (fail_part p t group)) v

  -- a value is at most greedy's cost
  pub val-le-greedy : (group : List ℕ) (v : ℕ) → val p entered group ≡ Some v → v ≤ greedy_cost p group
  val-le-greedy group v is = elim (cases_Bool (is_end p group)) [
    | inl e ↦ (let f = some-one p 0 v (val p entered group) (val-end p entered group e) is in omega arith)
    | inr e ↦ elim (cases_Bool (is_entered entered group)) [
      | inl i ↦ (let f = some-one p _ v (val p entered group) (val-entered p entered group e i) is in let g = least_of-first (greedy_cost p group) _ in subst (λ n. n ≤ greedy_cost p group) f g)
      | inr i ↦ absurd (let f = val-other p entered group e i in let h : ⊥ = cc in h)
    ]
  ]

  -- some test reaches the value, where greedy does not
  pub reaching : (group : List ℕ) (v : ℕ) → is_end p group ≡ false → val p entered group ≡ Some v → greedy_cost p group ≢ v → (t : ℕ) × IsIn t (splitting p group) × (is_value (step_value p (val p entered) group t) (Some v) ≡ true)
  reaching group v e is dear = go (entered-value p entered group v e is)
    where
      go : IsLeastValue (greedy_cost p group) (step_value p (val p entered) group) (splitting p group) v → (t : ℕ) × IsIn t (splitting p group) × (is_value (step_value p (val p entered) group t) (Some v) ≡ true)
      go (is_first g) = absurd (dear g)
      go (is_at t i y) = (t, i, is-value (step_value p (val p entered) group t) v y)

  -- in the words of a loop
  pub value_test-is : (group : List ℕ) (v t : ℕ) → val p entered group ≡ Some v → first_where (λ u. is_value (step_value p (val p entered) group u) (Some v)) (splitting p group) ≡ t → value_test p entered group ≡ t
  unfolding value_test
  value_test-is group v t is e = ap (λ o. first_where (λ u. is_value (step_value p (val p entered) group u) o) (splitting p group)) is ∙ e

  pub value_test-reaches : (group : List ℕ) (v : ℕ) → is_end p group ≡ false → val p entered group ≡ Some v → greedy_cost p group ≢ v → Reaches group v (value_test p entered group)
  value_test-reaches group v e is dear =
      let r = reaching group v e is dear in
      let f = first_where-finds (λ u. is_value (step_value p (val p entered) group u) (Some v)) r.0 (splitting p group) r.1 r.2 in
      let same = value_test-is group v _ is refl in
      subst (Reaches group v) (sym same) (record { among = f.among; parts = sum_with-parts _ _ _ v (value-is _ v f.passes) })

  -- the parts of that test
  pub record ValueParts (group : List ℕ) (t : ℕ) : Type 0 where
    pub there : t < p.tests
    pub splits_it : splits p group t ≡ true
    pub pass_smaller : length (pass_part p t group) < length group
    pub fail_smaller : length (fail_part p t group) < length group
    pub pass : HasValue p entered (pass_part p t group)
    pub fail : HasValue p entered (fail_part p t group)

  pub value_parts : (group : List ℕ) (v t : ℕ) → IsWithin p group → is_end p group ≡ false → val p entered group ≡ Some v → greedy_cost p group ≢ v → t ≡ value_test p entered group → ValueParts group t
  value_parts group v t within e is dear at =
      let r = subst (Reaches group v) (sym at) (value_test-reaches group v e is dear) in
      let s = splitting-splits p group t r.among in
      record {
        there = splitting-there p group t r.among;
        splits_it = s;
        pass_smaller = pass_part_smaller p t group s;
        fail_smaller = fail_part_smaller p t group s;
        pass = record { within = part-within p (p.passes t) group within; value = r.parts.left; value_is = r.parts.left_is };
        fail = record { within = part-within p (fails p t) group within; value = r.parts.right; value_is = r.parts.right_is };
      }

  dear-of : (group : List ℕ) (v : ℕ) → val p entered group ≡ Some v → is_value (Some (greedy_cost p group)) (val p entered group) ≡ false → greedy_cost p group ≢ v
  dear-of group v is n g = true≢false (sym (ap (is_value (Some (greedy_cost p group))) is ∙ eq-eqb (greedy_cost p group) v g) ∙ n)

  has : (group : List ℕ) (v : ℕ) → IsWithin p group → val p entered group ≡ Some v → HasValue p entered group
  has group v within is = record { within = within; value = v; value_is = is }

  pub strat-end : (group : List ℕ) → IsWithin p group → is_end p group ≡ true → strat p entered group ≡ leaf
  strat-end group within e = strat-step p entered group (has group 0 within (val-end p entered group e)) ∙ rw e refl

  pub strat-greedy : (group : List ℕ) (v : ℕ) → IsWithin p group → is_end p group ≡ false → val p entered group ≡ Some v → greedy_cost p group ≡ v → strat p entered group ≡ greedy p group
  strat-greedy group v within e is g = strat-step p entered group (has group v within is) ∙ rw (e, ap (is_value (Some (greedy_cost p group))) is ∙ eq-eqb (greedy_cost p group) v g) refl

  pub strat-ask : (group : List ℕ) (v t : ℕ) → IsWithin p group → is_end p group ≡ false → val p entered group ≡ Some v → greedy_cost p group ≢ v → t ≡ value_test p entered group → strat p entered group ≡ ask t (strat p entered (pass_part p t group)) (strat p entered (fail_part p t group))
  strat-ask group v t within e is dear at =
      strat-step p entered group (has group v within is) ∙ rw (e, ap (is_value (Some (greedy_cost p group))) is ∙ not-value (greedy_cost p group) v dear) refl
      ∙ ap (λ u. ask u (strat p entered (pass_part p u group)) (strat p entered (fail_part p u group))) (sym at)

  -- ---- it asks only tests that split what reaches them ----

  splitting-step : (group : List ℕ) → AreTold p → HasValue p entered group → ((part : List ℕ) → length part < length group → HasValue p entered part → AsksSplitting p (strat p entered part) part) → AsksSplitting p (strat p entered group) group
  splitting-step group told q below = elim (cases_Bool (is_end p group)) [
    | inl e ↦ subst (λ t. AsksSplitting p t group) (sym (strat-end group q.within e)) tt
    | inr e ↦ elim (cases_Bool (is_value (Some (greedy_cost p group)) (val p entered group))) [
      | inl y ↦
          (let g = eqb-true (greedy_cost p group) q.value (sym (ap (is_value (Some (greedy_cost p group))) q.value_is) ∙ y) in
          greedy-splitting p group (strat p entered group) told q.within (strat-greedy group q.value q.within e q.value_is g))
      | inr n ↦
          (let t = value_test p entered group in
          let dear = dear-of group q.value q.value_is n in
          let h = value_parts group q.value t q.within e q.value_is dear refl in
          subst (λ t. AsksSplitting p t group) (sym (strat-ask group q.value t q.within e q.value_is dear refl))
          (h.splits_it, below (pass_part p t group) h.pass_smaller h.pass, below (fail_part p t group) h.fail_smaller h.fail))
    ]
  ]

  splitting-to : (n : ℕ) (group : List ℕ) → length group ≤ n → AreTold p → HasValue p entered group → AsksSplitting p (strat p entered group) group
  splitting-to zero group le told q = splitting-step group told q (λ part lt h. absurd (let bad : ⊥ = omega arith in bad))
  splitting-to (suc n) group le told q = splitting-step group told q (λ part lt h. splitting-to n part (omega arith) told h)

  pub strat-splitting : (group : List ℕ) (v : ℕ) → AreTold p → IsWithin p group → val p entered group ≡ Some v → AsksSplitting p (strat p entered group) group
  strat-splitting group v told within is = splitting-to (length group) group (let le : length group ≤ length group = omega arith in le) told (has group v within is)

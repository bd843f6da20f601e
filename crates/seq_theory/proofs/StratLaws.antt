-- The strategy of an entered group is right, and costs its value.
use Rattle.std.proofs.Common.{◌≡◌, ℕ, zero, suc, ◌*◌, ◌<◌, ◌≤◌, List, [], ◌∷◌, length, refl, sym, ap, ◌∙◌, arith, inl, inr, subst, Option, Some, None}
use Rattle.std.specs.Prelude.{Bool, true, false, cond}
use Rattle.std.proofs.lemmas.Bool.{cases_Bool, true≢false, false≢true, eqb-true, eq-eqb}
use Rattle.seq_theory.specs.Problem.{Problem, IsIn, IsWithin, AreTold, fails, pass_part, fail_part, splitting, weight_of, is_end}
use Rattle.seq_theory.specs.Tree.{Tree, leaf, ask, tree_cost, Solves}
use Rattle.seq_theory.specs.Greedy.{greedy, greedy_cost}
use Rattle.seq_theory.specs.Graph.{is_entered, step_value, val, is_value, first_where, value_test, strat_step, strat}
use Rattle.seq_theory.proofs.GroupLaws.{pass_part_smaller, fail_part_smaller}
use Rattle.seq_theory.proofs.CostLaws.{tree_cost-leaf, tree_cost-ask}
use Rattle.seq_theory.proofs.PartsRecursion.{IsLocal, by_parts-step, splitting-splits, splitting-there}
use Rattle.seq_theory.proofs.GreedyLaws.{greedy-solves, part-within, solves-leaf, solves-ask}
use Rattle.seq_theory.proofs.ValLaws.{IsLeastValue, is_first, is_at, least_value, HasParts, sum_with-parts, val-end, val-entered, val-other}

-- the first that passes is in the list and passes
pub record Finds (f : ℕ → Bool) (xs : List ℕ) (t : ℕ) : Type 0 where
  pub among : IsIn t xs
  pub passes : f t ≡ true

pub first_where-finds : (f : ℕ → Bool) (u : ℕ) (xs : List ℕ) → IsIn u xs → f u ≡ true → Finds f xs (first_where f xs)
first_where-finds f u [] i e = absurd i
first_where-finds f u (x ∷ xs) i e = go (f x) refl i (λ j. first_where-finds f u xs j e)
  where
    go : (b : Bool) → f x ≡ b → IsIn u (x ∷ xs) → (IsIn u xs → Finds f xs (first_where f xs)) → Finds f (x ∷ xs) (cond b x (first_where f xs))
    go true y i later = record { among = inl refl; passes = y }
    go false n (inl s) later = absurd (true≢false (sym e ∙ sym (ap f s) ∙ n))
    go false n (inr i) later = let r = later i in record { among = inr r.among; passes = r.passes }

pub value-is : (a : Option ℕ) (v : ℕ) → is_value a (Some v) ≡ true → a ≡ Some v
value-is None v e = absurd (false≢true e)
value-is (Some x) v e = ap (λ n. Some n) (eqb-true x v e)

pub is-value : (a : Option ℕ) (v : ℕ) → a ≡ Some v → is_value a (Some v) ≡ true
is-value None v e = absurd (let h : ⊥ = cc in h)
is-value (Some x) v e = eq-eqb x v (let s : x ≡ v = cc in s)

module _ (p : Problem) (entered : List (List ℕ)) where
  -- a group within the classes that has this value
  pub record HasValue (group : List ℕ) : Type 0 where
    pub within : IsWithin p group
    pub value : ℕ
    pub value_is : val p entered group ≡ Some value

  -- the lowest test that reaches the value, and the values of its parts
  record Reaches (group : List ℕ) (v t : ℕ) : Type 0 where
    pub among : IsIn t (splitting p group)
    pub parts : HasParts (p.cost t * weight_of p group) (val p entered (pass_part p t group)) (val p entered (fail_part p t group)) v

  pub entered-value : (group : List ℕ) (v : ℕ) → is_end p group ≡ false → val p entered group ≡ Some v → IsLeastValue (greedy_cost p group) (step_value p (val p entered) group) (splitting p group) v
  entered-value group v e is = elim (cases_Bool (is_entered entered group)) [
    | inl i ↦ subst (IsLeastValue (greedy_cost p group) (step_value p (val p entered) group) (splitting p group)) (some-one _ v (val p entered group) (val-entered p entered group e i) is) (least_value (greedy_cost p group) (step_value p (val p entered) group) (splitting p group))
    | inr i ↦ absurd (let f = val-other p entered group e i in let h : ⊥ = cc in h)
  ]
    where
      some-one : (x y : ℕ) (o : Option ℕ) → o ≡ Some x → o ≡ Some y → x ≡ y
      some-one x y o a b = cc

  value_test-reaches : (group : List ℕ) (v : ℕ) → is_end p group ≡ false → val p entered group ≡ Some v → is_value (Some (greedy_cost p group)) (val p entered group) ≡ false → Reaches group v (value_test p entered group)
  unfolding value_test
  value_test-reaches group v e is other = go (entered-value group v e is)
    where
      at_test : (t : ℕ) → IsIn t (splitting p group) → is_value (step_value p (val p entered) group t) (val p entered group) ≡ true → step_value p (val p entered) group t ≡ Some v
      at_test t i y = value-is (step_value p (val p entered) group t) v (sym (ap (is_value (step_value p (val p entered) group t)) is) ∙ y)

      go : IsLeastValue (greedy_cost p group) (step_value p (val p entered) group) (splitting p group) v → Reaches group v (first_where (λ t. is_value (step_value p (val p entered) group t) (val p entered group)) (splitting p group))
      go (is_first g) = absurd (true≢false (sym (ap (is_value (Some (greedy_cost p group))) is ∙ eq-eqb (greedy_cost p group) v g) ∙ other))
      go (is_at t i y) =
          let f = first_where-finds (λ t. is_value (step_value p (val p entered) group t) (val p entered group)) t (splitting p group) i (ap (is_value (step_value p (val p entered) group t)) is ∙ is-value (step_value p (val p entered) group t) v y) in
          record { among = f.among; parts = sum_with-parts _ _ _ v (at_test _ f.among f.passes) }

  part-value : (group : List ℕ) (v t : ℕ) → IsWithin p group → Reaches group v t → HasValue (pass_part p t group) × HasValue (fail_part p t group)
  part-value group v t within r = (
    record { within = part-within p (p.passes t) group within; value = r.parts.left; value_is = r.parts.left_is },
    record { within = part-within p (fails p t) group within; value = r.parts.right; value_is = r.parts.right_is },
  )

  strat-local : IsLocal HasValue (strat_step p entered)
  strat-local f g group q same = elim (cases_Bool (is_end p group)) [
    | inl e ↦ rw e refl
    | inr e ↦ rw e (elim (cases_Bool (is_value (Some (greedy_cost p group)) (val p entered group))) [
      | inl y ↦ rw y refl
      | inr n ↦ rw n
          (let t = value_test p entered group in
          let r = value_test-reaches group q.value e q.value_is n in
          let s = splitting-splits p group t r.among in
          let h = part-value group q.value t q.within r in
          let f1 = same (pass_part p t group) (pass_part_smaller p t group s) h.0 in
          let f2 = same (fail_part p t group) (fail_part_smaller p t group s) h.1 in
          ap (λ a. ask t a (f (fail_part p t group))) f1 ∙ ap (λ b. ask t (g (pass_part p t group)) b) f2)
    ])
  ]

  pub strat-step : (group : List ℕ) → HasValue group → strat p entered group ≡ strat_step p entered (strat p entered) group
  strat-step group q = by_parts-step HasValue leaf (strat_step p entered) strat-local group q

  -- the strategy is right, and costs the value
  pub record StratHolds (group : List ℕ) (v : ℕ) : Type 0 where
    pub solves : Solves p (strat p entered group) group
    pub costs : tree_cost p (strat p entered group) group ≡ v

  strat-holds-by : (group : List ℕ) (v : ℕ) (tree : Tree) → strat p entered group ≡ tree → Solves p tree group → tree_cost p tree group ≡ v → StratHolds group v
  strat-holds-by group v tree is s c = record {
    solves = subst (λ t. Solves p t group) (sym is) s;
    costs = ap (λ t. tree_cost p t group) is ∙ c;
  }

  strat-holds-step : (group : List ℕ) (v : ℕ) → AreTold p → IsWithin p group → val p entered group ≡ Some v → ((part : List ℕ) (u : ℕ) → length part < length group → IsWithin p part → val p entered part ≡ Some u → StratHolds part u) → StratHolds group v
  strat-holds-step group v told within is below =
      let q : HasValue group = record { within = within; value = v; value_is = is } in
      let step = strat-step group q in
      elim (cases_Bool (is_end p group)) [
        | inl e ↦ strat-holds-by group v leaf (step ∙ rw e refl) (solves-leaf p group e)
            (tree_cost-leaf p group ∙ (let f = val-end p entered group e in let h : 0 ≡ v = cc in h))
        | inr e ↦ elim (cases_Bool (is_value (Some (greedy_cost p group)) (val p entered group))) [
          | inl y ↦ strat-holds-by group v (greedy p group) (step ∙ rw (e, y) refl) (greedy-solves p group told within)
              (let s = value-is (Some (greedy_cost p group)) v (sym (ap (is_value (Some (greedy_cost p group))) is) ∙ y) in let h : greedy_cost p group ≡ v = cc in h)
          | inr n ↦
              (let t = value_test p entered group in
              let r = value_test-reaches group v e is n in
              let s = splitting-splits p group t r.among in
              let b1 = below (pass_part p t group) r.parts.left (pass_part_smaller p t group s) (part-within p (p.passes t) group within) r.parts.left_is in
              let b2 = below (fail_part p t group) r.parts.right (fail_part_smaller p t group s) (part-within p (fails p t) group within) r.parts.right_is in
              let f1 = tree_cost-ask p t (strat p entered (pass_part p t group)) (strat p entered (fail_part p t group)) group in
              let f2 = b1.costs in
              let f3 = b2.costs in
              let f4 = r.parts.sum in
              strat-holds-by group v (ask t (strat p entered (pass_part p t group)) (strat p entered (fail_part p t group))) (step ∙ rw (e, n) refl)
              (solves-ask p group t _ _ (splitting-there p group t r.among) b1.solves b2.solves) (omega arith))
        ]
      ]

  strat-holds-to : (n : ℕ) (group : List ℕ) (v : ℕ) → length group ≤ n → AreTold p → IsWithin p group → val p entered group ≡ Some v → StratHolds group v
  strat-holds-to zero group v le told within is = strat-holds-step group v told within is (λ part u lt wp e. absurd (let h : ⊥ = omega arith in h))
  strat-holds-to (suc n) group v le told within is = strat-holds-step group v told within is (λ part u lt wp e. strat-holds-to n part u (omega arith) told wp e)

  pub strat-holds : (group : List ℕ) (v : ℕ) → AreTold p → IsWithin p group → val p entered group ≡ Some v → StratHolds group v
  strat-holds group v = strat-holds-to (length group) group v (omega arith)

-- Greedy is right, and the bounds stand in order.
use Rattle.std.proofs.Common.{◌≡◌, ℕ, zero, suc, ◌*◌, ◌<◌, ◌≤◌, max, List, [], ◌∷◌, length, refl, sym, ap, ◌∙◌, arith, inl, inr, subst}
use Rattle.std.specs.Prelude.{Bool, true, false, map, filter, cond, nat_le}
use Rattle.std.proofs.lemmas.Bool.{cases_Bool, cases_lt}
use Rattle.std.proofs.Math.Nat.{mul-le-mul_left}
use Rattle.seq_theory.specs.Problem.{Problem, IsIn, IsWithin, IsWeighed, AreTold, fails, pass_part, fail_part, splits, splitting, count_up, weight_of, is_end, least_of}
use Rattle.seq_theory.specs.Tree.{Tree, leaf, ask, tree_cost, Solves}
use Rattle.seq_theory.specs.Bound.{bound, step_sum}
use Rattle.seq_theory.specs.Greedy.{first_least, greedy_test, greedy_step, greedy, greedy_cost, one_step}
use Rattle.seq_theory.proofs.GroupLaws.{IsIn-filter, filter-IsIn, pass_part_smaller, fail_part_smaller, weight_of-parts}
use Rattle.seq_theory.proofs.CostLaws.{tree_cost-leaf, tree_cost-ask, Settles-from_right, right-from_Settles}
use Rattle.seq_theory.proofs.LeastLaws.{least, least-le, least_reached, step_reaches, least_of-le, IsIn-count_up}
use Rattle.seq_theory.proofs.BoundLeast.{bound-le}
use Rattle.seq_theory.proofs.PartsRecursion.{IsLocal, by_parts-step, splitting-splits, splitting-there}

either-IsIn : (b : Bool) (x z : ℕ) (xs : List ℕ) → IsIn z xs → IsIn (cond b x z) (x ∷ xs)
either-IsIn true x z xs i = inl refl
either-IsIn false x z xs i = inr i

first_least-IsIn : (f : ℕ → ℕ) (x : ℕ) (xs : List ℕ) → IsIn (first_least f (x ∷ xs)) (x ∷ xs)
first_least-IsIn f x [] = inl refl
first_least-IsIn f x (y ∷ rest) = either-IsIn (nat_le (f x) (f (first_least f (y ∷ rest)))) x (first_least f (y ∷ rest)) (y ∷ rest) (first_least-IsIn f y rest)

module _ (p : Problem) where
  -- where some test splits, the greedy test does
  pub greedy_test-IsIn : (group : List ℕ) (t : ℕ) → IsIn t (splitting p group) → IsIn (greedy_test p group) (splitting p group)
  unfolding greedy_test
  greedy_test-IsIn group t i = go (splitting p group) i
    where
      go : (xs : List ℕ) → IsIn t xs → IsIn (first_least (step_sum p (bound p) group) xs) xs
      go [] i = absurd i
      go (x ∷ xs) i = first_least-IsIn (step_sum p (bound p) group) x xs

  splitting-IsIn : (group : List ℕ) (t : ℕ) → t < p.tests → splits p group t ≡ true → IsIn t (splitting p group)
  splitting-IsIn group t there e = IsIn-filter (splits p group) t (count_up 0 p.tests) (IsIn-count_up t 0 p.tests (omega arith) (omega arith)) e

  -- the greedy test splits a group that is no end
  pub greedy_test_splits : (group : List ℕ) → AreTold p → IsWithin p group → is_end p group ≡ false → IsIn (greedy_test p group) (splitting p group)
  greedy_test_splits group told within e =
      let r = step_reaches p group told within e in
      greedy_test-IsIn group r.0 (splitting-IsIn group r.0 r.1 r.2)

  pub part-within : (f : ℕ → Bool) (group : List ℕ) → IsWithin p group → IsWithin p (filter f group)
  part-within f group within c i = within c (filter-IsIn f c group i)

  greedy-local : AreTold p → IsLocal (IsWithin p) (greedy_step p)
  greedy-local told f g group within same = elim (cases_Bool (is_end p group)) [
    | inl e ↦ rw e refl
    | inr e ↦
        (let t = greedy_test p group in
        let s = splitting-splits p group t (greedy_test_splits group told within e) in
        let f1 = same (pass_part p t group) (pass_part_smaller p t group s) (part-within (p.passes t) group within) in
        let f2 = same (fail_part p t group) (fail_part_smaller p t group s) (part-within (fails p t) group within) in
        rw e (ap (λ a. ask t a (f (fail_part p t group))) f1 ∙ ap (λ b. ask t (g (pass_part p t group)) b) f2))
  ]

  pub greedy-step : (group : List ℕ) → AreTold p → IsWithin p group → greedy p group ≡ greedy_step p (greedy p) group
  greedy-step group told within = by_parts-step (IsWithin p) leaf (greedy_step p) (greedy-local told) group within

  pub greedy-end : (group : List ℕ) → AreTold p → IsWithin p group → is_end p group ≡ true → greedy p group ≡ leaf
  greedy-end group told within e = greedy-step group told within ∙ rw e refl

  pub greedy-more : (group : List ℕ) → AreTold p → IsWithin p group → is_end p group ≡ false → greedy p group ≡ ask (greedy_test p group) (greedy p (pass_part p (greedy_test p group) group)) (greedy p (fail_part p (greedy_test p group) group))
  greedy-more group told within e = greedy-step group told within ∙ rw e refl

  pub solves-leaf : (group : List ℕ) → is_end p group ≡ true → Solves p leaf group
  solves-leaf group e = record { there = tt; right = right-from_Settles p leaf group e }

  pub solves-ask : (group : List ℕ) (t : ℕ) (a b : Tree) → t < p.tests → Solves p a (pass_part p t group) → Solves p b (fail_part p t group) → Solves p (ask t a b) group
  solves-ask group t a b there sa sb = record {
    there = (there, sa.there, sb.there);
    right = right-from_Settles p (ask t a b) group (Settles-from_right p a (pass_part p t group) sa.right, Settles-from_right p b (fail_part p t group) sb.right);
  }

  -- greedy is right, and costs no more than the deepest way for each class
  record GreedyHolds (most n : ℕ) (group : List ℕ) : Type 0 where
    pub solves : Solves p (greedy p group) group
    pub cheap : greedy_cost p group ≤ weight_of p group * (n * most)

  greedy-holds-end : (most n : ℕ) (group : List ℕ) → AreTold p → IsWithin p group → is_end p group ≡ true → GreedyHolds most n group
  greedy-holds-end most n group told within e =
      let g = greedy-end group told within e in
      let f1 = ap (λ t. tree_cost p t group) g in
      let f2 = tree_cost-leaf p group in
      record { solves = subst (λ t. Solves p t group) (sym g) (solves-leaf group e); cheap = omega arith }

  greedy-holds-more : (most n t : ℕ) (group : List ℕ) → ((t : ℕ) → t < p.tests → p.cost t ≤ most) → t ≡ greedy_test p group → AreTold p → IsWithin p group → is_end p group ≡ false → GreedyHolds most n (pass_part p t group) → GreedyHolds most n (fail_part p t group) → GreedyHolds most (suc n) group
  greedy-holds-more most n t group costs is told within e gp gf =
      let g = greedy-more group told within e ∙ ap (λ u. ask u (greedy p (pass_part p u group)) (greedy p (fail_part p u group))) (sym is) in
      let i = subst (λ u. IsIn u (splitting p group)) (sym is) (greedy_test_splits group told within e) in
      let there = splitting-there p group t i in
      let f1 = ap (λ u. tree_cost p u group) g in
      let f2 = tree_cost-ask p t (greedy p (pass_part p t group)) (greedy p (fail_part p t group)) group in
      let f3 = gp.cheap in
      let f4 = gf.cheap in
      let f5 = weight_of-parts p t group in
      let f6 = mul-le-mul_left (weight_of p group) (costs t there) in
      let f7 = ap (λ w. w * (n * most)) f5 in
      record {
        solves = subst (λ u. Solves p u group) (sym g) (solves-ask group t (greedy p (pass_part p t group)) (greedy p (fail_part p t group)) there gp.solves gf.solves);
        cheap = omega arith;
      }

  greedy-holds : (most n : ℕ) (group : List ℕ) → ((t : ℕ) → t < p.tests → p.cost t ≤ most) → length group ≤ n → AreTold p → IsWithin p group → GreedyHolds most n group
  greedy-holds most zero [] costs le told within = greedy-holds-end most zero [] told within refl
  greedy-holds most zero (x ∷ xs) costs le told within = absurd (let h : ⊥ = omega arith in h)
  greedy-holds most (suc n) group costs le told within = elim (cases_Bool (is_end p group)) [
    | inl e ↦ greedy-holds-end most (suc n) group told within e
    | inr e ↦
        (let t = greedy_test p group in
        let s = splitting-splits p group t (greedy_test_splits group told within e) in
        let sp = pass_part_smaller p t group s in
        let sf = fail_part_smaller p t group s in
        greedy-holds-more most n t group costs refl told within e
        (greedy-holds most n (pass_part p t group) costs (omega arith) told (part-within (p.passes t) group within))
        (greedy-holds most n (fail_part p t group) costs (omega arith) told (part-within (fails p t) group within)))
  ]

  some_most : (n : ℕ) → (most : ℕ) × ((t : ℕ) → t < n → p.cost t ≤ most)
  some_most zero = (0, λ t lt. absurd (let h : ⊥ = omega arith in h))
  some_most (suc n) =
      let m = some_most n in (
        max m.0 (p.cost n),
        λ t lt. elim (cases_lt t n) [
          | inl below ↦ (let h = m.1 t below in omega arith)
          | inr ge ↦ (let is : n ≡ t = omega arith in subst (λ u. p.cost u ≤ max m.0 (p.cost n)) is (omega arith))
        ],
      )

  -- greedy is right
  pub greedy-solves : (group : List ℕ) → AreTold p → IsWithin p group → Solves p (greedy p group) group
  greedy-solves group told within = let m = some_most p.tests in (greedy-holds m.0 (length group) group m.1 (omega arith) told within).solves

  pub greedy-cheap : (most : ℕ) (group : List ℕ) → ((t : ℕ) → t < p.tests → p.cost t ≤ most) → AreTold p → IsWithin p group → greedy_cost p group ≤ weight_of p group * (length group * most)
  greedy-cheap most group costs told within = (greedy-holds most (length group) group costs (omega arith) told within).cheap

  pub least-le-greedy : (group : List ℕ) → AreTold p → IsWithin p group → least p group ≤ greedy_cost p group
  least-le-greedy group told within = least-le p (greedy p group) group (greedy-solves group told within)

  -- the bound, the one-step bound, the least cost and greedy's cost stand in this order
  pub bound-le-least : (group : List ℕ) → IsWeighed p → AreTold p → IsWithin p group → bound p group ≤ least p group
  bound-le-least group w told within =
      let r = least_reached p group told within in
      let f1 = bound-le p r.0 group w within r.1 in
      let f2 = r.2 in
      omega arith

  pub bound-end : (group : List ℕ) → is_end p group ≡ true → bound p group ≡ 0
  unfolding bound
  bound-end group e = rw e refl

  pub bound-le-one_step : (group : List ℕ) → bound p group ≤ one_step p group
  unfolding one_step
  bound-le-one_step group = elim (cases_Bool (is_end p group)) [
    | inl e ↦ rw e (let f = bound-end group e in omega arith)
    | inr e ↦ rw e (omega arith)
  ]

  -- sums over parts, where a value of each part is at most its least cost
  pub least_of-steps-le : (l : List ℕ → ℕ) (group : List ℕ) → AreTold p → IsWithin p group → is_end p group ≡ false → ((part : List ℕ) → length part < length group → IsWithin p part → l part ≤ least p part) → least_of (map (step_sum p l group) (splitting p group)) ≤ least p group
  least_of-steps-le l group told within e below =
      let r = step_reaches p group told within e in
      let t = r.0 in
      let f1 = least_of-le (step_sum p l group) t (splitting p group) (splitting-IsIn group t r.1 r.2) in
      let f2 = below (pass_part p t group) (pass_part_smaller p t group r.2) (part-within (p.passes t) group within) in
      let f3 = below (fail_part p t group) (fail_part_smaller p t group r.2) (part-within (fails p t) group within) in
      let f4 = r.3 in
      omega arith

  pub one_step-le-least : (group : List ℕ) → IsWeighed p → AreTold p → IsWithin p group → one_step p group ≤ least p group
  unfolding one_step
  one_step-le-least group w told within = elim (cases_Bool (is_end p group)) [
    | inl e ↦ rw e (omega arith)
    | inr e ↦ rw e
        (let f1 = bound-le-least group w told within in
        let f2 = least_of-steps-le (bound p) group told within e (λ part lt wp. bound-le-least part w told wp) in
        omega arith)
  ]

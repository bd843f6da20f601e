-- The recursion over splitting tests gives the least cost.
use Rattle.std.proofs.Common.{◌≡◌, ◌≢◌, ℕ, zero, suc, ◌+◌, ◌*◌, ◌<◌, ◌≤◌, List, [], ◌∷◌, length, refl, sym, ap, ◌∙◌, arith, ◌⊎◌, inl, inr, subst}
use Rattle.std.specs.Prelude.{Bool, true, false, not, cond, filter, map, nat_eq}
use Rattle.std.proofs.lemmas.Bool.{cases_Bool, cases_lt, true≢false, false≢true, and_from, and_cases, eqb-false}
use Rattle.std.specs.List.{list_all}
use Rattle.seq_theory.specs.Problem.{Problem, IsIn, IsWithin, AreTold, count_up, fails, pass_part, fail_part, splits, splitting, weight_of, is_end, least_of}
use Rattle.seq_theory.specs.Tree.{Tree, leaf, ask, tree_cost, AsksOnly, Solves, IsLeast}
use Rattle.seq_theory.specs.Bound.{step_sum}
use Rattle.seq_theory.proofs.GroupLaws.{IsIn-filter, filter-IsIn, filter_passes, list_any-IsIn, pass_part_smaller, fail_part_smaller, not_splits}
use Rattle.seq_theory.proofs.CostLaws.{Settles, tree_cost-leaf, tree_cost-ask, Settles-from_right, right-from_Settles}

pub IsIn-count_up : (c from n : ℕ) → from ≤ c → c < from + n → IsIn c (count_up from n)
IsIn-count_up c from zero le lt = absurd (let h : ⊥ = omega arith in h)
IsIn-count_up c from (suc n) le lt = elim (cases_lt from c) [
  | inl h ↦ inr (IsIn-count_up c (suc from) n h (omega arith))
  | inr h ↦ (let e : from ≡ c = omega arith in inl e)
]

pub count_up-IsIn : (c from n : ℕ) → IsIn c (count_up from n) → (from ≤ c) × (c < from + n)
count_up-IsIn c from zero i = absurd i
count_up-IsIn c from (suc n) (inl e) = (omega arith, omega arith)
count_up-IsIn c from (suc n) (inr i) = let h = count_up-IsIn c (suc from) n i in (omega arith, omega arith)

pub least_of-le : (f : ℕ → ℕ) (x : ℕ) (xs : List ℕ) → IsIn x xs → least_of (map f xs) ≤ f x
least_of-le f x [] i = absurd i
least_of-le f x (y ∷ []) (inl e) = let fe = ap f e in omega arith
least_of-le f x (y ∷ []) (inr i) = absurd i
least_of-le f x (y ∷ z ∷ rest) (inl e) = let fe = ap f e in omega arith
least_of-le f x (y ∷ z ∷ rest) (inr i) = omega (arith, least_of-le f x (z ∷ rest) i)

pub least_of-found : (f : ℕ → ℕ) (x : ℕ) (xs : List ℕ) → (y : ℕ) × IsIn y (x ∷ xs) × (f y ≡ least_of (map f (x ∷ xs)))
least_of-found f x [] = (x, inl refl, refl)
least_of-found f x (z ∷ rest) =
    let r = least_of-found f z rest in
    elim (cases_lt (least_of (map f (z ∷ rest))) (f x)) [
      | inl lt ↦ (r.0, inr r.1, let e = r.2 in omega arith)
      | inr le ↦ (x, inl refl, omega arith)
    ]

-- the cost of the best strategy, by a recursion over the splitting tests, at most so deep
abbrev pub best : Problem → ℕ → List ℕ → ℕ
best p zero group = 0
best p (suc n) group = cond (is_end p group) 0 (least_of (map (λ t. p.cost t * weight_of p group + (best p n (pass_part p t group) + best p n (fail_part p t group))) (splitting p group)))

module _ (p : Problem) where
  -- what a first test costs, with the best strategies after it
  abbrev pub first_cost : ℕ → List ℕ → ℕ → ℕ
  first_cost n group t = p.cost t * weight_of p group + (best p n (pass_part p t group) + best p n (fail_part p t group))

  pub best-end : (n : ℕ) (group : List ℕ) → is_end p group ≡ true → best p n group ≡ 0
  best-end zero group e = refl
  best-end (suc n) group e = rw e refl

  pub best-more : (n : ℕ) (group : List ℕ) → is_end p group ≡ false → best p (suc n) group ≡ least_of (map (first_cost n group) (splitting p group))
  best-more n group e = rw e refl

  -- a test that does not split can be left out
  best-le-kept : (n t : ℕ) (pass fail : Tree) (group : List ℕ) → ((pass_part p t group ≡ group) × (fail_part p t group ≡ [])) ⊎ ((pass_part p t group ≡ []) × (fail_part p t group ≡ group)) → (Settles p pass group → best p n group ≤ tree_cost p pass group) → (Settles p fail group → best p n group ≤ tree_cost p fail group) → Settles p (ask t pass fail) group → best p n group ≤ tree_cost p (ask t pass fail) group
  best-le-kept n t pass fail group (inl same) h1 h2 s =
      let f1 = tree_cost-ask p t pass fail group in
      let f2 = ap (tree_cost p pass) same.0 in
      let f3 = h1 (subst (Settles p pass) same.0 s.0) in
      omega arith
  best-le-kept n t pass fail group (inr same) h1 h2 s =
      let f1 = tree_cost-ask p t pass fail group in
      let f2 = ap (tree_cost p fail) same.1 in
      let f3 = h2 (subst (Settles p fail) same.1 s.1) in
      omega arith

  best-le-split : (n t : ℕ) (pass fail : Tree) (group : List ℕ) → t < p.tests → splits p group t ≡ true → best p n (pass_part p t group) ≤ tree_cost p pass (pass_part p t group) → best p n (fail_part p t group) ≤ tree_cost p fail (fail_part p t group) → best p (suc n) group ≤ tree_cost p (ask t pass fail) group
  best-le-split n t pass fail group there s h1 h2 = elim (cases_Bool (is_end p group)) [
    | inl e ↦ (let f = best-end (suc n) group e in omega arith)
    | inr e ↦
        (let f1 = best-more n group e in
        let f2 = least_of-le (first_cost n group) t (splitting p group) (IsIn-filter (splits p group) t (count_up 0 p.tests) (IsIn-count_up t 0 p.tests (omega arith) (omega arith)) s) in
        let f3 = tree_cost-ask p t pass fail group in
        omega arith)
  ]

  best-le-ask : (n t : ℕ) (pass fail : Tree) (group : List ℕ) → t < p.tests → length group ≤ n → ((m : ℕ) (g : List ℕ) → length g ≤ m → Settles p pass g → best p m g ≤ tree_cost p pass g) → ((m : ℕ) (g : List ℕ) → length g ≤ m → Settles p fail g → best p m g ≤ tree_cost p fail g) → Settles p (ask t pass fail) group → best p n group ≤ tree_cost p (ask t pass fail) group
  best-le-ask zero t pass fail group there le h1 h2 s = omega arith
  best-le-ask (suc n) t pass fail group there le h1 h2 s = elim (cases_Bool (splits p group t)) [
    | inl e ↦ best-le-split n t pass fail group there e
        (h1 n (pass_part p t group) (let l = pass_part_smaller p t group e in omega arith) s.0)
        (h2 n (fail_part p t group) (let l = fail_part_smaller p t group e in omega arith) s.1)
    | inr e ↦ best-le-kept (suc n) t pass fail group (not_splits p t group e) (h1 (suc n) group le) (h2 (suc n) group le) s
  ]

  -- no right strategy undercuts it
  pub best-le : (tree : Tree) → AsksOnly p.tests tree → (n : ℕ) (group : List ℕ) → length group ≤ n → Settles p tree group → best p n group ≤ tree_cost p tree group
  best-le leaf only n group le s = let f = best-end n group s in omega arith
  best-le (ask t pass fail) only n group le s = best-le-ask n t pass fail group only.0 le (best-le pass only.1) (best-le fail only.2) s

  -- the tests below n agree on two classes, or one of them does not
  agree_or_not : (a b n : ℕ) → ((t : ℕ) → t < n → p.passes t a ≡ p.passes t b) ⊎ ((t : ℕ) × (t < n) × (p.passes t a ≢ p.passes t b))
  agree_or_not a b zero = inl (λ t lt. absurd (let h : ⊥ = omega arith in h))
  agree_or_not a b (suc n) = elim (agree_or_not a b n) [
    | inr d ↦ inr (d.0, let lt = d.1 in omega arith, d.2)
    | inl same ↦ elim (cases_same (p.passes n a) (p.passes n b)) [
      | inl e ↦ inl (λ t lt. elim (cases_lt t n) [ inl below ↦ same t below | inr ge ↦ (let is : n ≡ t = omega arith in subst (λ s. p.passes s a ≡ p.passes s b) is e) ])
      | inr ne ↦ inr (n, omega arith, ne)
    ]
  ]
    where
      cases_same : (x y : Bool) → (x ≡ y) ⊎ (x ≢ y)
      cases_same true true = inl refl
      cases_same true false = inr true≢false
      cases_same false true = inr false≢true
      cases_same false false = inl refl

  told_apart : AreTold p → (a b : ℕ) → a < p.classes → b < p.classes → a ≢ b → (t : ℕ) × (t < p.tests) × (p.passes t a ≢ p.passes t b)
  told_apart told a b wa wb ne = elim (agree_or_not a b p.tests) [
    | inl same ↦ absurd (ne (told a b wa wb same))
    | inr d ↦ d
  ]

  -- a group that is no end has classes that a test tells apart
  differ : (group : List ℕ) → AreTold p → IsWithin p group → is_end p group ≡ false → (t : ℕ) × IsIn t (splitting p group)
  differ group told within e =
      let d = two_goals group e in
      let t = told_apart told d.0 d.1 (within d.0 d.2) (within d.1 d.3) d.4 in
      (t.0, IsIn-filter (splits p group) t.0 (count_up 0 p.tests) (IsIn-count_up t.0 0 p.tests (omega arith) (omega arith)) (split_by t.0 d.0 d.1 group d.2 d.3 t.2))
    where
      split_by : (t a b : ℕ) (group : List ℕ) → IsIn a group → IsIn b group → (p.passes t a ≢ p.passes t b) → splits p group t ≡ true
      split_by t a b group i j ne = elim (cases_Bool (p.passes t a)) [
        | inl ya ↦ elim (cases_Bool (p.passes t b)) [
          | inl yb ↦ absurd (ne (ya ∙ sym yb))
          | inr nb ↦ and_from _ _ (list_any-IsIn (p.passes t) a group i ya) (list_any-IsIn (fails p t) b group j (ap not nb))
        ]
        | inr na ↦ elim (cases_Bool (p.passes t b)) [
          | inl yb ↦ and_from _ _ (list_any-IsIn (p.passes t) b group j yb) (list_any-IsIn (fails p t) a group i (ap not na))
          | inr nb ↦ absurd (ne (na ∙ sym nb))
        ]
      ]

      other_goal : (c : ℕ) (xs : List ℕ) → list_all (λ d. nat_eq (p.goal d) (p.goal c)) xs ≡ false → (d : ℕ) × IsIn d xs × (p.goal d ≢ p.goal c)
      other_goal c [] e = absurd (true≢false e)
      other_goal c (x ∷ xs) e = elim (and_cases (nat_eq (p.goal x) (p.goal c)) (list_all (λ d. nat_eq (p.goal d) (p.goal c)) xs) e) [
        | inl n ↦ (x, inl refl, eqb-false (p.goal x) (p.goal c) n)
        | inr n ↦ (let r = other_goal c xs n in (r.0, inr r.1, r.2))
      ]

      two_goals : (group : List ℕ) → is_end p group ≡ false → (a : ℕ) × (b : ℕ) × IsIn a group × IsIn b group × (a ≢ b)
      two_goals [] e = absurd (true≢false e)
      two_goals (x ∷ xs) e = let r = other_goal x xs e in (x, r.0, inl refl, inr r.1, λ s. r.2 (sym (ap p.goal s)))

  within-filter : (f : ℕ → Bool) (group : List ℕ) → IsWithin p group → IsWithin p (filter f group)
  within-filter f group w c i = w c (filter-IsIn f c group i)

  Reached : ℕ → List ℕ → Type 0
  Reached n group = (tree : Tree) × AsksOnly p.tests tree × Settles p tree group × (tree_cost p tree group ≡ best p n group)

  reached_by_leaf : (n : ℕ) (group : List ℕ) → is_end p group ≡ true → Reached n group
  unfolding Reached
  reached_by_leaf n group e = (leaf, tt, e, tree_cost-leaf p group ∙ sym (best-end n group e))

  reached_by_ask : (n t : ℕ) (group : List ℕ) → t < p.tests → first_cost n group t ≡ best p (suc n) group → Reached n (pass_part p t group) → Reached n (fail_part p t group) → Reached (suc n) group
  unfolding Reached
  reached_by_ask n t group there e r1 r2 =
      let f = tree_cost-ask p t r1.0 r2.0 group in
      let f1 = r1.3 in
      let f2 = r2.3 in
      (ask t r1.0 r2.0, (there, r1.1, r2.1), (r1.2, r2.2), omega arith)

  nonempty : (xs : List ℕ) (x : ℕ) → IsIn x xs → (f : ℕ → ℕ) → (y : ℕ) × IsIn y xs × (f y ≡ least_of (map f xs))
  nonempty [] x i f = absurd i
  nonempty (z ∷ rest) x i f = least_of-found f z rest

  -- some right strategy reaches it
  reach : (n : ℕ) (group : List ℕ) → length group ≤ n → AreTold p → IsWithin p group → Reached n group
  reach zero [] le told within = reached_by_leaf zero [] refl
  reach zero (x ∷ xs) le told within = absurd (let h : ⊥ = omega arith in h)
  reach (suc n) group le told within = elim (cases_Bool (is_end p group)) [
    | inl e ↦ reached_by_leaf (suc n) group e
    | inr e ↦
        (let d = differ group told within e in
        let t = nonempty (splitting p group) d.0 d.1 (first_cost n group) in
        let s = filter_passes (splits p group) t.0 (count_up 0 p.tests) t.1 in
        let there = (count_up-IsIn t.0 0 p.tests (filter-IsIn (splits p group) t.0 (count_up 0 p.tests) t.1)).1 in
        reached_by_ask n t.0 group (omega arith) (t.2 ∙ sym (best-more n group e))
        (reach n (pass_part p t.0 group) (let l = pass_part_smaller p t.0 group s in omega arith) told (within-filter (p.passes t.0) group within))
        (reach n (fail_part p t.0 group) (let l = fail_part_smaller p t.0 group s in omega arith) told (within-filter (fails p t.0) group within)))
  ]

  -- the recursion gives the least cost
  pub best_is_least : (group : List ℕ) → AreTold p → IsWithin p group → IsLeast p group (best p (length group) group)
  unfolding Reached
  best_is_least group told within =
      let r = reach (length group) group (omega arith) told within in
      record {
        reached = (r.0, record { there = r.1; right = right-from_Settles p r.0 group r.2 }, r.3);
        least = λ tree s. best-le tree s.there (length group) group (omega arith) (Settles-from_right p tree group s.right);
      }

  -- what the best strategy costs
  unfoldable pub least : List ℕ → ℕ
  least group = best p (length group) group

  pub least-le : (tree : Tree) (group : List ℕ) → Solves p tree group → least group ≤ tree_cost p tree group
  unfolding least
  least-le tree group s = best-le tree s.there (length group) group (omega arith) (Settles-from_right p tree group s.right)

  pub least_reached : (group : List ℕ) → AreTold p → IsWithin p group → (tree : Tree) × Solves p tree group × (tree_cost p tree group ≡ least group)
  unfolding least
  least_reached group told within = (best_is_least group told within).reached

  pub IsLeast-least : (group : List ℕ) → AreTold p → IsWithin p group → IsLeast p group (least group)
  unfolding least
  IsLeast-least group told within = best_is_least group told within

  -- there is one least cost
  pub IsLeast-one : (group : List ℕ) (m n : ℕ) → IsLeast p group m → IsLeast p group n → m ≡ n
  IsLeast-one group m n a b =
      let ra = a.reached in
      let rb = b.reached in
      let f1 = a.least rb.0 rb.1 in
      let f2 = b.least ra.0 ra.1 in
      let f3 = ra.2 in
      let f4 = rb.2 in
      omega arith

  -- enough depth is enough
  best-least : (n : ℕ) (group : List ℕ) → length group ≤ n → AreTold p → IsWithin p group → best p n group ≡ least group
  unfolding least Reached
  best-least n group le told within =
      let r1 = reach n group le told within in
      let r2 = reach (length group) group (omega arith) told within in
      let f1 = best-le r2.0 r2.1 n group le r2.2 in
      let f2 = best-le r1.0 r1.1 (length group) group (omega arith) r1.2 in
      let f3 = r1.3 in
      let f4 = r2.3 in
      omega arith

  -- what it costs from each first test
  pub least-end : (group : List ℕ) → is_end p group ≡ true → least group ≡ 0
  unfolding least
  least-end group e = best-end (length group) group e

  pub step-least : (group : List ℕ) (t : ℕ) → AreTold p → IsWithin p group → t < p.tests → splits p group t ≡ true → least group ≤ step_sum p least group t
  step-least group t told within there e =
      let rp = least_reached (pass_part p t group) told (within-filter (p.passes t) group within) in
      let rf = least_reached (fail_part p t group) told (within-filter (fails p t) group within) in
      let s : Settles p (ask t rp.0 rf.0) group = (Settles-from_right p rp.0 (pass_part p t group) rp.1.right, Settles-from_right p rf.0 (fail_part p t group) rf.1.right) in
      let f1 = least-le (ask t rp.0 rf.0) group (record { there = (there, rp.1.there, rf.1.there); right = right-from_Settles p (ask t rp.0 rf.0) group s }) in
      let f2 = tree_cost-ask p t rp.0 rf.0 group in
      let f3 = rp.2 in
      let f4 = rf.2 in
      omega arith

  -- a group that is no end is split by some test, and one of these reaches the least cost
  pub step_reaches : (group : List ℕ) → AreTold p → IsWithin p group → is_end p group ≡ false → (t : ℕ) × (t < p.tests) × (splits p group t ≡ true) × (step_sum p least group t ≡ least group)
  step_reaches group told within e = go (length group) refl
    where
      go : (n : ℕ) → n ≡ length group → (t : ℕ) × (t < p.tests) × (splits p group t ≡ true) × (step_sum p least group t ≡ least group)
      go zero len = absurd (true≢false (empty group len e))
        where
          empty : (xs : List ℕ) → zero ≡ length xs → is_end p xs ≡ false → true ≡ false
          empty [] l e = e
          empty (x ∷ xs) l e = absurd (let h : ⊥ = omega arith in h)
      go (suc n) len =
          let d = differ group told within e in
          let t = nonempty (splitting p group) d.0 d.1 (first_cost n group) in
          let s = filter_passes (splits p group) t.0 (count_up 0 p.tests) t.1 in
          let there = (count_up-IsIn t.0 0 p.tests (filter-IsIn (splits p group) t.0 (count_up 0 p.tests) t.1)).1 in
          let sp = pass_part_smaller p t.0 group s in
          let sf = fail_part_smaller p t.0 group s in
          let f1 = best-least n (pass_part p t.0 group) (omega arith) told (within-filter (p.passes t.0) group within) in
          let f2 = best-least n (fail_part p t.0 group) (omega arith) told (within-filter (fails p t.0) group within) in
          let f3 = best-least (suc n) group (omega arith) told within in
          let f4 = best-more n group e in
          let f5 = t.2 in
          (t.0, omega arith, s, omega arith)

-- The tests on a class's way, and the bound's line under the sums of least costs.
use Rattle.std.proofs.Common.{◌≡◌, ◌≢◌, ℕ, zero, suc, ◌+◌, ◌*◌, ◌<◌, ◌≤◌, List, [], ◌∷◌, length, refl, sym, ap, ◌∙◌, arith, inl, inr}
use Rattle.std.specs.Prelude.{Bool, true, false, cond, filter, map, nat_eq}
use Rattle.std.proofs.lemmas.Bool.{cases_Bool, cases_lt, false≢true, and_parts, and_from, eqb-false, eqb-true, ne_eqb, le-leb, lt-leb}
use Rattle.std.specs.List.{list_any}
use Rattle.seq_theory.specs.Problem.{Problem, IsIn, fails, pass_part, fail_part, splits, weight_of}
use Rattle.seq_theory.specs.Tree.{Tree, leaf, ask, asked, costs_of, AsksOnly}
use Rattle.seq_theory.specs.Huffman.{place_in, upward}
use Rattle.seq_theory.specs.Bound.{sum_first}
use Rattle.seq_theory.proofs.UpwardLaws.{place-swap}
use Rattle.seq_theory.proofs.BoundLaws.{split_weights}

-- ---- lists ----

-- the list without the first place of a number
abbrev without : ℕ → List ℕ → List ℕ
without t [] = []
without t (x ∷ xs) = cond (nat_eq x t) xs (x ∷ without t xs)

IsIn-without : (u t : ℕ) (xs : List ℕ) → IsIn u xs → u ≢ t → IsIn u (without t xs)
IsIn-without u t [] i ne = i
IsIn-without u t (x ∷ xs) (inl s) ne = let n : x ≢ t = (λ e. ne (sym s ∙ e)) in rw (ne_eqb x t n) (inl s)
IsIn-without u t (x ∷ xs) (inr i) ne = elim (cases_Bool (nat_eq x t)) [
  | inl y ↦ rw y i
  | inr n ↦ rw n (inr (IsIn-without u t xs i ne))
]

upward-without : (f : ℕ → ℕ) (t : ℕ) (xs : List ℕ) → IsIn t xs → upward (map f xs) ≡ place_in (f t) (upward (map f (without t xs)))
upward-without f t [] i = absurd i
upward-without f t (x ∷ xs) i = elim (cases_Bool (nat_eq x t)) [
  | inl y ↦ rw y (ap (λ n. place_in (f n) (upward (map f xs))) (eqb-true x t y))
  | inr n ↦ rw n (elim i [
    | inl s ↦ absurd (eqb-false x t n s)
    | inr j ↦ ap (place_in (f x)) (upward-without f t xs j) ∙ place-swap (f x) (f t) (upward (map f (without t xs)))
  ])
]

length-without : (t : ℕ) (xs : List ℕ) → IsIn t xs → length xs ≡ suc (length (without t xs))
length-without t [] i = absurd i
length-without t (x ∷ xs) i = elim (cases_Bool (nat_eq x t)) [
  | inl y ↦ rw y refl
  | inr n ↦ rw n (elim i [
    | inl s ↦ absurd (eqb-false x t n s)
    | inr j ↦ ap suc (length-without t xs j)
  ])
]

-- one more of the least is at most a number of the list and as many of the least of the others
sum_first-place : (d n : ℕ) (xs : List ℕ) → sum_first (suc d) (place_in n xs) ≤ n + sum_first d xs
sum_first-place zero n [] = omega arith
sum_first-place (suc d) n [] = omega arith
sum_first-place zero n (x ∷ xs) = elim (cases_lt x n) [
  | inr ge ↦ rw (le-leb n x ge) (omega arith)
  | inl lt ↦ rw (lt-leb n x lt) (omega arith)
]
sum_first-place (suc d) n (x ∷ xs) = elim (cases_lt x n) [
  | inr ge ↦ rw (le-leb n x ge) (omega arith)
  | inl lt ↦ rw (lt-leb n x lt) (omega (arith, sum_first-place d n xs))
]

-- ---- the tests that split, on a class's way ----

module _ (p : Problem) where
  -- how many nodes on the class's way split the group that reaches them
  abbrev pub splits_met : Tree → List ℕ → ℕ → ℕ
  splits_met leaf xs c = 0
  splits_met (ask t pass fail) xs c = cond (splits p xs t) 1 0 + cond (p.passes t c) (splits_met pass (pass_part p t xs) c) (splits_met fail (fail_part p t xs) c)

  -- the list has each test that splits the group
  unfoldable pub Offers : List ℕ → List ℕ → Type 0
  Offers tests group = (t : ℕ) → t < p.tests → splits p group t ≡ true → IsIn t tests

  -- a test that splits a part splits the group
  splits-filter : (f : ℕ → Bool) (t : ℕ) (xs : List ℕ) → splits p (filter f xs) t ≡ true → splits p xs t ≡ true
  splits-filter f t xs e =
      let s = and_parts (list_any (p.passes t) (filter f xs)) (list_any (fails p t) (filter f xs)) e in
      and_from _ _ (any-filter (p.passes t) xs s.0) (any-filter (fails p t) xs s.1)
    where
      any-filter : (g : ℕ → Bool) (xs : List ℕ) → list_any g (filter f xs) ≡ true → list_any g xs ≡ true
      any-filter g [] e = e
      any-filter g (x ∷ xs) e = elim (cases_Bool (f x)) [
        | inl y ↦ elim (cases_Bool (g x)) [
          | inl gy ↦ rw gy refl
          | inr gn ↦ rw gn (any-filter g xs (rw (y, gn) at e))
        ]
        | inr n ↦ elim (cases_Bool (g x)) [
          | inl gy ↦ rw gy refl
          | inr gn ↦ rw gn (any-filter g xs (rw n at e))
        ]
      ]

  -- a test splits no part of its own
  not_again-pass : (t : ℕ) (xs : List ℕ) → splits p (pass_part p t xs) t ≡ false
  not_again-pass t [] = refl
  not_again-pass t (x ∷ xs) = elim (cases_Bool (p.passes t x)) [
    | inl y ↦ rw (y, y) (all_pass t xs)
    | inr n ↦ rw n (not_again-pass t xs)
  ]
    where
      all_pass : (t : ℕ) (xs : List ℕ) → list_any (fails p t) (pass_part p t xs) ≡ false
      all_pass t [] = refl
      all_pass t (x ∷ xs) = elim (cases_Bool (p.passes t x)) [
        | inl y ↦ rw (y, y) (all_pass t xs)
        | inr n ↦ rw n (all_pass t xs)
      ]

  not_again-fail : (t : ℕ) (xs : List ℕ) → splits p (fail_part p t xs) t ≡ false
  not_again-fail t xs = rw (none_pass t xs) refl
    where
      none_pass : (t : ℕ) (xs : List ℕ) → list_any (p.passes t) (fail_part p t xs) ≡ false
      none_pass t [] = refl
      none_pass t (x ∷ xs) = elim (cases_Bool (p.passes t x)) [
        | inl y ↦ rw y (none_pass t xs)
        | inr n ↦ rw (n, n) (none_pass t xs)
      ]

  -- on each class's way the nodes that split ask different ones of the tests offered
  pub record WayCosts (tests : List ℕ) (met paid : ℕ) : Type 0 where
    pub few : met ≤ length tests
    pub costs : sum_first met (upward (map p.cost tests)) ≤ paid

  way-split : (t : ℕ) (tests : List ℕ) (met paid : ℕ) → IsIn t tests → WayCosts (without t tests) met paid → WayCosts tests (1 + met) (p.cost t + paid)
  way-split t tests met paid i w =
      let f1 = length-without t tests i in
      let f2 = ap (sum_first (suc met)) (upward-without p.cost t tests i) in
      let f3 = sum_first-place met (p.cost t) (upward (map p.cost (without t tests))) in
      let f4 = w.costs in
      let f5 = w.few in
      let e : 1 + met ≡ suc met = omega arith in
      let f6 = ap (λ m. sum_first m (upward (map p.cost tests))) e in
      record { few = omega arith; costs = omega arith }

  way-kept : (t : ℕ) (tests : List ℕ) (met paid : ℕ) → WayCosts tests met paid → WayCosts tests (0 + met) (p.cost t + paid)
  way-kept t tests met paid w =
      let f4 = w.costs in
      let f5 = w.few in
      let e : 0 + met ≡ met = omega arith in
      let f6 = ap (λ m. sum_first m (upward (map p.cost tests))) e in
      record { few = omega arith; costs = omega arith }

  offers-part : (f : ℕ → Bool) (tests xs : List ℕ) → Offers tests xs → Offers tests (filter f xs)
  unfolding Offers
  offers-part f tests xs o t there e = o t there (splits-filter f t xs e)

  offers-rest : (f : ℕ → Bool) (t : ℕ) (tests xs : List ℕ) → Offers tests xs → splits p (filter f xs) t ≡ false → Offers (without t tests) (filter f xs)
  unfolding Offers
  offers-rest f t tests xs o n u there e =
      IsIn-without u t tests (o u there (splits-filter f u xs e)) (λ s. false≢true (sym n ∙ sym (ap (splits p (filter f xs)) s) ∙ e))

  pub way : (tree : Tree) → AsksOnly p.tests tree → (tests xs : List ℕ) (c : ℕ) → Offers tests xs → WayCosts tests (splits_met tree xs c) (costs_of p (asked p tree c))
  unfolding Offers
  way leaf only tests xs c o = record { few = omega arith; costs = omega arith }
  way (ask t pass fail) only tests xs c o = elim (cases_Bool (splits p xs t)) [
    | inl e ↦ rw e (elim (cases_Bool (p.passes t c)) [
      | inl y ↦ rw y (way-split t tests (splits_met pass (pass_part p t xs) c) (costs_of p (asked p pass c)) (o t only.0 e)
          (way pass only.1 (without t tests) (pass_part p t xs) c (offers-rest (p.passes t) t tests xs o (not_again-pass t xs))))
      | inr n ↦ rw n (way-split t tests (splits_met fail (fail_part p t xs) c) (costs_of p (asked p fail c)) (o t only.0 e)
          (way fail only.2 (without t tests) (fail_part p t xs) c (offers-rest (fails p t) t tests xs o (not_again-fail t xs))))
    ])
    | inr e ↦ rw e (elim (cases_Bool (p.passes t c)) [
      | inl y ↦ rw y (way-kept t tests (splits_met pass (pass_part p t xs) c) (costs_of p (asked p pass c))
          (way pass only.1 tests (pass_part p t xs) c (offers-part (p.passes t) tests xs o)))
      | inr n ↦ rw n (way-kept t tests (splits_met fail (fail_part p t xs) c) (costs_of p (asked p fail c))
          (way fail only.2 tests (fail_part p t xs) c (offers-part (fails p t) tests xs o)))
    ])
  ]

  -- ---- the sum over the classes ----

  -- each class's weight times the nodes on its way that split, in a strategy over a group; summed over some classes
  abbrev pub met_sum : Tree → List ℕ → List ℕ → ℕ
  met_sum tree group [] = 0
  met_sum tree group (c ∷ xs) = p.weight c * splits_met tree group c + met_sum tree group xs

  met_sum-ask : (t : ℕ) (pass fail : Tree) (group xs : List ℕ) → met_sum (ask t pass fail) group xs ≡ cond (splits p group t) (weight_of p xs) 0 + (met_sum pass (pass_part p t group) (pass_part p t xs) + met_sum fail (fail_part p t group) (fail_part p t xs))
  met_sum-ask t pass fail group [] = elim (cases_Bool (splits p group t)) [ inl y ↦ rw y (omega arith) | inr n ↦ rw n (omega arith) ]
  met_sum-ask t pass fail group (x ∷ xs) = elim (cases_Bool (splits p group t)) [
    | inl e ↦
        (let r = rw e at (met_sum-ask t pass fail group xs) in
        rw e (elim (cases_Bool (p.passes t x)) [ inl y ↦ rw y (omega arith) | inr n ↦ rw n (omega arith) ]))
    | inr e ↦
        (let r = rw e at (met_sum-ask t pass fail group xs) in
        rw e (elim (cases_Bool (p.passes t x)) [ inl y ↦ rw y (omega arith) | inr n ↦ rw n (omega arith) ]))
  ]

  pub met_sum-is : (tree : Tree) (group : List ℕ) → met_sum tree group group ≡ split_weights p tree group
  met_sum-is leaf group = zeros group
    where
      zeros : (xs : List ℕ) → met_sum leaf group xs ≡ 0
      zeros [] = refl
      zeros (x ∷ xs) = omega (arith, zeros xs)
  met_sum-is (ask t pass fail) group =
      omega (arith, met_sum-ask t pass fail group group, met_sum-is pass (pass_part p t group), met_sum-is fail (fail_part p t group))

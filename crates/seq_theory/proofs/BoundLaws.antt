-- The bound is at most the cost of each right strategy.
use Rattle.std.proofs.Common.{◌≡◌, ◌≢◌, ℕ, zero, suc, ◌+◌, ◌<◌, ◌≤◌, List, [], ◌∷◌, ◌++◌, length, refl, sym, ap, ◌∙◌, arith, inl, inr, subst}
use Rattle.std.specs.Prelude.{Bool, true, false, ◌||◌, cond, filter, map, nat_eq}
use Rattle.std.proofs.lemmas.Bool.{cases_Bool, true≢false, and_parts, eqb-true, eq-eqb}
use Rattle.std.specs.List.{list_any}
use Rattle.seq_theory.specs.Problem.{Problem, IsIn, IsWithin, IsWeighed, count_up, fails, pass_part, fail_part, splits, weight_of, is_end}
use Rattle.seq_theory.specs.Tree.{Tree, leaf, ask}
use Rattle.seq_theory.specs.Huffman.{place_in, upward, merging, huff}
use Rattle.seq_theory.specs.Bound.{has_goal, goal_weight, goal_weights}
use Rattle.seq_theory.proofs.UpwardLaws.{IsUp, place-swap, place-low, place-least, IsUp-upward}
use Rattle.seq_theory.proofs.HuffmanLaws.{huff-same, huff-one, huff-merge, huff-spread, upward-middle}
use Rattle.seq_theory.proofs.GroupLaws.{filter-IsIn, not_splits, list_any-found, weight_of-parts, goals-from_is_end, none-filter}
use Rattle.seq_theory.proofs.CostLaws.{Settles}

-- ---- joining two weights into one saves ----

huff-zero : (n : ℕ) (xs : List ℕ) → huff (n ∷ xs) ≤ huff (0 ∷ n ∷ xs)
unfolding huff
huff-zero n xs = go (upward (n ∷ xs)) (IsUp-upward (n ∷ xs)) (suc (length xs))
  where
    go : (ys : List ℕ) → IsUp ys → (k : ℕ) → merging k ys ≤ merging (suc k) (place_in 0 ys)
    go [] up zero = omega arith
    go [] up (suc k) = omega arith
    go (y ∷ ys) up k =
        let f1 = ap (merging (suc k)) (place-low 0 y ys (omega arith)) in
        let e : 0 + y ≡ y = omega arith in
        let f2 = ap (λ s. merging k (place_in s ys)) e in
        let f3 = ap (merging k) (place-least y ys up.0) in
        omega arith

-- two weights as one cost no more
pub huff-join : (a b : ℕ) (xs : List ℕ) → huff ((a + b) ∷ xs) ≤ huff (a ∷ b ∷ xs)
huff-join a b xs =
    let f1 = huff-zero (a + b) xs in
    let f2 = huff-spread 0 a b (a + b) xs (omega arith) (omega arith) (omega arith) in
    omega arith

-- ---- the goals of two parts ----

-- two lists of goals' weights as one, goal by goal
module _ (f g h : ℕ → ℕ) (inf ing inh : ℕ → Bool) (sums : (x : ℕ) → f x ≡ g x + h x) (either : (x : ℕ) → inf x ≡ (ing x || inh x)) (none1 : (x : ℕ) → ing x ≡ false → g x ≡ 0) (none2 : (x : ℕ) → inh x ≡ false → h x ≡ 0) where
  pub huff-goals : (gs ys : List ℕ) → huff (map f (filter inf gs) ++ ys) ≤ huff (map g (filter ing gs) ++ (map h (filter inh gs) ++ ys))
  huff-goals [] ys = omega arith
  huff-goals (x ∷ gs) ys = elim (cases_Bool (ing x)) [
    | inl y1 ↦ elim (cases_Bool (inh x)) [
      | inl y2 ↦
          (let e : inf x ≡ true = either x ∙ rw y1 refl in
          rw (e, y1, y2)
          (let j = huff-join (g x) (h x) (map f (filter inf gs) ++ ys) in
          let s = ap (λ n. huff (n ∷ (map f (filter inf gs) ++ ys))) (sums x) in
          let r1 = huff-same (g x ∷ h x ∷ (map f (filter inf gs) ++ ys)) (map f (filter inf gs) ++ (g x ∷ h x ∷ ys))
          (sym (upward-middle (map f (filter inf gs)) (g x) (h x ∷ ys) ∙ ap (place_in (g x)) (upward-middle (map f (filter inf gs)) (h x) ys))) in
          let i = huff-goals gs (g x ∷ h x ∷ ys) in
          let r2 = huff-same (map g (filter ing gs) ++ (map h (filter inh gs) ++ (g x ∷ h x ∷ ys))) (g x ∷ (map g (filter ing gs) ++ (h x ∷ (map h (filter inh gs) ++ ys))))
          (move2 (map g (filter ing gs)) (map h (filter inh gs)) (g x) (h x) ys) in
          omega arith))
      | inr n2 ↦
          (let e : inf x ≡ true = either x ∙ rw y1 refl in
          rw (e, y1, n2)
          (let z = none2 x n2 in
          let z' : f x ≡ g x = omega (arith, sums x) in
          let s = ap (λ n. huff (n ∷ (map f (filter inf gs) ++ ys))) z' in
          let r1 = huff-same (g x ∷ (map f (filter inf gs) ++ ys)) (map f (filter inf gs) ++ (g x ∷ ys)) (sym (upward-middle (map f (filter inf gs)) (g x) ys)) in
          let i = huff-goals gs (g x ∷ ys) in
          let r2 = huff-same (map g (filter ing gs) ++ (map h (filter inh gs) ++ (g x ∷ ys))) (g x ∷ (map g (filter ing gs) ++ (map h (filter inh gs) ++ ys)))
          (move1 (map g (filter ing gs)) (map h (filter inh gs)) (g x) ys) in
          omega arith))
    ]
    | inr n1 ↦ elim (cases_Bool (inh x)) [
      | inl y2 ↦
          (let e : inf x ≡ true = either x ∙ rw (n1, y2) refl in
          rw (e, n1, y2)
          (let z = none1 x n1 in
          let z' : f x ≡ h x = omega (arith, sums x) in
          let s = ap (λ n. huff (n ∷ (map f (filter inf gs) ++ ys))) z' in
          let r1 = huff-same (h x ∷ (map f (filter inf gs) ++ ys)) (map f (filter inf gs) ++ (h x ∷ ys)) (sym (upward-middle (map f (filter inf gs)) (h x) ys)) in
          let i = huff-goals gs (h x ∷ ys) in
          let r2 = huff-same (map g (filter ing gs) ++ (map h (filter inh gs) ++ (h x ∷ ys))) (map g (filter ing gs) ++ (h x ∷ (map h (filter inh gs) ++ ys)))
          (move1 (map g (filter ing gs)) (map h (filter inh gs)) (h x) ys ∙ sym (upward-middle (map g (filter ing gs)) (h x) (map h (filter inh gs) ++ ys))) in
          omega arith))
      | inr n2 ↦
          (let e : inf x ≡ false = either x ∙ rw (n1, n2) refl in
          rw (e, n1, n2) (huff-goals gs ys))
    ]
  ]
    where
      append-move : (xs : List ℕ) (n : ℕ) (ys zs : List ℕ) → upward ys ≡ place_in n (upward zs) → upward (xs ++ ys) ≡ place_in n (upward (xs ++ zs))
      append-move [] n ys zs e = e
      append-move (x ∷ xs) n ys zs e = ap (place_in x) (append-move xs n ys zs e) ∙ place-swap x n (upward (xs ++ zs))

      move1 : (us vs : List ℕ) (n : ℕ) (ys : List ℕ) → upward (us ++ (vs ++ (n ∷ ys))) ≡ place_in n (upward (us ++ (vs ++ ys)))
      move1 us vs n ys = append-move us n (vs ++ (n ∷ ys)) (vs ++ ys) (upward-middle vs n ys)

      move2 : (us vs : List ℕ) (m n : ℕ) (ys : List ℕ) → upward (us ++ (vs ++ (m ∷ n ∷ ys))) ≡ place_in m (upward (us ++ (n ∷ (vs ++ ys))))
      move2 us vs m n ys = move1 us vs m (n ∷ ys) ∙ ap (place_in m) (move1 us vs n ys ∙ sym (upward-middle us n (vs ++ ys)))

-- ---- the goals of a group and of its parts ----

module _ (p : Problem) where
  goal_weight-parts : (t g : ℕ) (xs : List ℕ) → goal_weight p xs g ≡ goal_weight p (pass_part p t xs) g + goal_weight p (fail_part p t xs) g
  goal_weight-parts t g [] = refl
  goal_weight-parts t g (x ∷ xs) = elim (cases_Bool (p.passes t x)) [
    | inl y ↦ rw y (elim (cases_Bool (nat_eq (p.goal x) g)) [
      | inl a ↦ rw a (omega (arith, goal_weight-parts t g xs))
      | inr b ↦ rw b (goal_weight-parts t g xs)
    ])
    | inr n ↦ rw n (elim (cases_Bool (nat_eq (p.goal x) g)) [
      | inl a ↦ rw a (omega (arith, goal_weight-parts t g xs))
      | inr b ↦ rw b (goal_weight-parts t g xs)
    ])
  ]

  has_goal-parts : (t g : ℕ) (xs : List ℕ) → has_goal p xs g ≡ (has_goal p (pass_part p t xs) g || has_goal p (fail_part p t xs) g)
  has_goal-parts t g [] = refl
  has_goal-parts t g (x ∷ xs) = elim (cases_Bool (p.passes t x)) [
    | inl y ↦ rw y (elim (cases_Bool (nat_eq (p.goal x) g)) [
      | inl a ↦ rw a refl
      | inr b ↦ rw b (has_goal-parts t g xs)
    ])
    | inr n ↦ rw n (elim (cases_Bool (nat_eq (p.goal x) g)) [
      | inl a ↦ rw a (sym (or-true (has_goal p (pass_part p t xs) g)))
      | inr b ↦ rw b (has_goal-parts t g xs)
    ])
  ]
    where
      or-true : (b : Bool) → (b || true) ≡ true
      or-true true = refl
      or-true false = refl

  no_goal-weight : (g : ℕ) (xs : List ℕ) → has_goal p xs g ≡ false → goal_weight p xs g ≡ 0
  no_goal-weight g xs e = ap (weight_of p) (none-filter (λ c. nat_eq (p.goal c) g) xs e)

  -- Huffman's cost of a group's goals is at most that of the goals of both parts together
  pub huff-parts : (t : ℕ) (xs ys : List ℕ) → huff (goal_weights p xs ++ ys) ≤ huff (goal_weights p (pass_part p t xs) ++ (goal_weights p (fail_part p t xs) ++ ys))
  huff-parts t xs ys =
      huff-goals (goal_weight p xs) (goal_weight p (pass_part p t xs)) (goal_weight p (fail_part p t xs)) (has_goal p xs) (has_goal p (pass_part p t xs)) (has_goal p (fail_part p t xs))
      (λ g. goal_weight-parts t g xs) (λ g. has_goal-parts t g xs) (λ g. no_goal-weight g (pass_part p t xs)) (λ g. no_goal-weight g (fail_part p t xs)) (count_up 0 p.classes) ys

  -- ---- one goal ----

  filter-one : (f : ℕ → Bool) (g from n : ℕ) → ((x : ℕ) → f x ≡ true → x ≡ g) → f g ≡ true → from ≤ g → g < from + n → filter f (count_up from n) ≡ g ∷ []
  filter-one f g from zero only e le lt = absurd (let h : ⊥ = omega arith in h)
  filter-one f g from (suc n) only e le lt = elim (cases_Bool (f from)) [
    | inl y ↦
        (let same = only from y in
        rw y (ap (λ x. x ∷ filter f (count_up (suc from) n)) same ∙ ap (λ l. g ∷ l) (none (suc from) n (omega arith))))
    | inr n' ↦
        (let ne : from ≢ g = (λ s. true≢false (sym e ∙ sym (ap f s) ∙ n')) in
        rw n' (filter-one f g (suc from) n only e (omega arith) (omega arith)))
  ]
    where
      none : (from n : ℕ) → g < from → filter f (count_up from n) ≡ []
      none from zero lt = refl
      none from (suc n) lt = elim (cases_Bool (f from)) [
        | inl y ↦ (let same = only from y in absurd (omega arith))
        | inr e ↦ rw e (none (suc from) n (omega arith))
      ]

  filter-all : (g : ℕ) (xs : List ℕ) → ((c : ℕ) → IsIn c xs → p.goal c ≡ g) → filter (λ c. nat_eq (p.goal c) g) xs ≡ xs
  filter-all g [] h = refl
  filter-all g (x ∷ xs) h = rw (eq-eqb (p.goal x) g (h x (inl refl))) (ap (λ l. x ∷ l) (filter-all g xs (λ c i. h c (inr i))))

  found_goal : (g h : ℕ) (xs : List ℕ) → ((c : ℕ) → IsIn c xs → p.goal c ≡ g) → has_goal p xs h ≡ true → h ≡ g
  found_goal g h [] all e = absurd (true≢false (sym e))
  found_goal g h (x ∷ xs) all e = elim (cases_Bool (nat_eq (p.goal x) h)) [
    | inl y ↦ sym (eqb-true (p.goal x) h y) ∙ all x (inl refl)
    | inr n ↦ found_goal g h xs (λ c i. all c (inr i)) (rw n at e)
  ]

  -- a group of one goal has its weight for the list of its goals' weights
  pub goal_weights-end : (c : ℕ) (xs : List ℕ) → IsWeighed p → IsWithin p (c ∷ xs) → is_end p (c ∷ xs) ≡ true → goal_weights p (c ∷ xs) ≡ weight_of p (c ∷ xs) ∷ []
  goal_weights-end c xs w within e =
      let all = (λ (d : ℕ) (i : IsIn d (c ∷ xs)). goals-from_is_end p (c ∷ xs) e d c i (inl refl)) in
      ap (map (goal_weight p (c ∷ xs))) (filter-one (has_goal p (c ∷ xs)) (p.goal c) 0 p.classes (λ h. found_goal (p.goal c) h (c ∷ xs) all) (rw (eq-eqb (p.goal c) (p.goal c) refl) refl) (omega arith) (let l = w.goals c (within c (inl refl)) in omega arith))
      ∙ ap (λ l. weight_of p l ∷ []) (filter-all (p.goal c) (c ∷ xs) all)

  -- ---- Huffman's cost of the goals is at most the sum of the weights over the splitting nodes ----

  -- the weights of the groups that the strategy splits, summed over its nodes
  abbrev pub split_weights : Tree → List ℕ → ℕ
  split_weights leaf xs = 0
  split_weights (ask t pass fail) xs = cond (splits p xs t) (weight_of p xs) 0 + (split_weights pass (pass_part p t xs) + split_weights fail (fail_part p t xs))

  huff-strategy : IsWeighed p → (tree : Tree) (xs ys : List ℕ) → 1 ≤ length xs → IsWithin p xs → Settles p tree xs → huff (goal_weights p xs ++ ys) ≤ split_weights tree xs + huff (weight_of p xs ∷ ys)
  huff-strategy w leaf [] ys some within s = absurd (let h : ⊥ = omega arith in h)
  huff-strategy w leaf (c ∷ xs) ys some within s =
      let f = ap (λ l. huff (l ++ ys)) (goal_weights-end c xs w within s) in
      omega arith
  huff-strategy w (ask t pass fail) xs ys some within s = elim (cases_Bool (splits p xs t)) [
    | inl e ↦
        (let xp = pass_part p t xs in
        let xf = fail_part p t xs in
        let two = and_parts (list_any (p.passes t) xs) (list_any (fails p t) xs) e in
        let f1 = huff-parts t xs ys in
        let f2 = huff-strategy w pass xp (goal_weights p xf ++ ys) (list_any-found (p.passes t) xs two.0) (λ c i. within c (filter-IsIn (p.passes t) c xs i)) s.0 in
        let f3 = huff-same (weight_of p xp ∷ (goal_weights p xf ++ ys)) (goal_weights p xf ++ (weight_of p xp ∷ ys)) (sym (upward-middle (goal_weights p xf) (weight_of p xp) ys)) in
        let f4 = huff-strategy w fail xf (weight_of p xp ∷ ys) (list_any-found (fails p t) xs two.1) (λ c i. within c (filter-IsIn (fails p t) c xs i)) s.1 in
        let f5 = huff-merge (weight_of p xf) (weight_of p xp) ys in
        let f6 = weight_of-parts p t xs in
        let e1 : weight_of p xf + weight_of p xp ≡ weight_of p xs = omega arith in
        let f7 = ap (λ n. huff (n ∷ ys)) e1 in
        rw e (omega arith))
    | inr e ↦ rw e (elim (not_splits p t xs e) [
      | inl same ↦
          (let f1 = huff-strategy w pass xs ys some within (subst (Settles p pass) same.0 s.0) in
          let f2 = ap (split_weights pass) same.0 in
          omega arith)
      | inr same ↦
          (let f1 = huff-strategy w fail xs ys some within (subst (Settles p fail) same.1 s.1) in
          let f2 = ap (split_weights fail) same.1 in
          omega arith)
    ])
  ]

  pub huff-split_weights : IsWeighed p → (tree : Tree) (xs : List ℕ) → 1 ≤ length xs → IsWithin p xs → Settles p tree xs → huff (goal_weights p xs) ≤ split_weights tree xs
  huff-split_weights w tree xs some within s =
      let f1 = huff-strategy w tree xs [] some within s in
      let f2 = ap huff (append-nil (goal_weights p xs)) in
      let f3 = huff-one (weight_of p xs) in
      omega arith
    where
      append-nil : (xs : List ℕ) → xs ++ [] ≡ xs
      append-nil [] = refl
      append-nil (x ∷ xs) = ap (λ l. x ∷ l) (append-nil xs)

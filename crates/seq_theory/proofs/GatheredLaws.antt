-- A strategy is right, and costs the same, over states and over the classes that gather them.
--
-- A state meets the tests that its class meets. So rightness goes over by naming a state of each class, and the cost by
-- a double sum: each class's weight is the sum over its states, and each state stands in one class.
use Rattle.std.proofs.Common.{◌≡◌, ℕ, zero, suc, ◌+◌, ◌*◌, ◌<◌, ◌≤◌, List, [], ◌∷◌, refl, sym, ap, ◌∙◌, arith, inl, inr, subst, ◌≢◌}
use Rattle.std.specs.Prelude.{true, false, cond, filter, nat_eq}
use Rattle.std.proofs.lemmas.Bool.{cases_Bool, eqb-true, eqb-false}
use Rattle.seq_theory.specs.Problem.{Problem, IsIn, count_up, all_classes, weight_of}
use Rattle.seq_theory.specs.Tree.{Tree, leaf, ask, asked, answers, costs_of, tree_cost, AsksOnly, IsRight, Solves, IsLeast}
use Rattle.seq_theory.proofs.LeastLaws.{IsIn-count_up, count_up-IsIn}
use Rattle.seq_theory.specs.Gathered.{IsGathered}

module _ (ps pc : Problem) (class_of : ℕ → ℕ) (q : IsGathered ps pc class_of) where
  pub asked-same : (tree : Tree) (s : ℕ) → AsksOnly ps.tests tree → s < ps.classes → asked ps tree s ≡ asked pc tree (class_of s)
  asked-same leaf s only lt = refl
  asked-same (ask t pass fail) s only lt = elim (cases_Bool (ps.passes t s)) [
    | inl y ↦ (let y' : pc.passes t (class_of s) ≡ true = sym (q.passes t s only.0 lt) ∙ y in rw (y, y') (ap (λ l. t ∷ l) (asked-same pass s only.1 lt)))
    | inr n ↦ (let n' : pc.passes t (class_of s) ≡ false = sym (q.passes t s only.0 lt) ∙ n in rw (n, n') (ap (λ l. t ∷ l) (asked-same fail s only.2 lt)))
  ]

  pub answers-same : (tree : Tree) (s : ℕ) → AsksOnly ps.tests tree → s < ps.classes → answers ps tree s ≡ answers pc tree (class_of s)
  answers-same leaf s only lt = refl
  answers-same (ask t pass fail) s only lt = elim (cases_Bool (ps.passes t s)) [
    | inl y ↦ (let y' : pc.passes t (class_of s) ≡ true = sym (q.passes t s only.0 lt) ∙ y in rw (y, y') (ap (λ l. true ∷ l) (answers-same pass s only.1 lt)))
    | inr n ↦ (let n' : pc.passes t (class_of s) ≡ false = sym (q.passes t s only.0 lt) ∙ n in rw (n, n') (ap (λ l. false ∷ l) (answers-same fail s only.2 lt)))
  ]

  costs-same : (tree : Tree) (s : ℕ) → AsksOnly ps.tests tree → s < ps.classes → costs_of ps (asked ps tree s) ≡ costs_of pc (asked pc tree (class_of s))
  costs-same leaf s only lt = refl
  costs-same (ask t pass fail) s only lt = elim (cases_Bool (ps.passes t s)) [
    | inl y ↦ (let y' : pc.passes t (class_of s) ≡ true = sym (q.passes t s only.0 lt) ∙ y in rw (y, y') (let c = q.cost t only.0 in let r = costs-same pass s only.1 lt in omega arith))
    | inr n ↦ (let n' : pc.passes t (class_of s) ≡ false = sym (q.passes t s only.0 lt) ∙ n in rw (n, n') (let c = q.cost t only.0 in let r = costs-same fail s only.2 lt in omega arith))
  ]

  -- over all states and over all classes
  pub right-of_states : (tree : Tree) → AsksOnly ps.tests tree → IsRight pc tree (all_classes pc) → IsRight ps tree (all_classes ps)
  right-of_states tree only r a b i j e =
      let la : a < ps.classes = let h = count_up-IsIn a 0 ps.classes i in omega arith in
      let lb : b < ps.classes = let h = count_up-IsIn b 0 ps.classes j in omega arith in
      let ca = q.goes a la in
      let cb = q.goes b lb in
      (q.goals a b la lb).1 (r (class_of a) (class_of b) (IsIn-count_up (class_of a) 0 pc.classes (omega arith) (omega arith)) (IsIn-count_up (class_of b) 0 pc.classes (omega arith) (omega arith))
      (sym (answers-same tree a only la) ∙ e ∙ answers-same tree b only lb))

  pub right-of_classes : (tree : Tree) → AsksOnly ps.tests tree → IsRight ps tree (all_classes ps) → IsRight pc tree (all_classes pc)
  right-of_classes tree only r a b i j e =
      let la : a < pc.classes = let h = count_up-IsIn a 0 pc.classes i in omega arith in
      let lb : b < pc.classes = let h = count_up-IsIn b 0 pc.classes j in omega arith in
      let x = q.has a la in
      let y = q.has b lb in
      let lx : x.0 < ps.classes = x.1 in
      let ly : y.0 < ps.classes = y.1 in
      let e' : answers pc tree (class_of x.0) ≡ answers pc tree (class_of y.0) = ap (answers pc tree) x.2 ∙ e ∙ sym (ap (answers pc tree) y.2) in
      let g = r x.0 y.0 (IsIn-count_up x.0 0 ps.classes (omega arith) (omega arith)) (IsIn-count_up y.0 0 ps.classes (omega arith) (omega arith))
      (answers-same tree x.0 only lx ∙ e' ∙ sym (answers-same tree y.0 only ly)) in
      sym (ap pc.goal x.2) ∙ (q.goals x.0 y.0 lx ly).0 g ∙ ap pc.goal y.2

-- the double sum: a weight for each state, a class of each state, and a number for each class
module _ (ps : Problem) (class_of f : ℕ → ℕ) where
  -- what the states of a list that go into a class weigh
  abbrev in_class : List ℕ → ℕ → ℕ
  in_class states c = weight_of ps (filter (λ s. nat_eq (class_of s) c) states)

  -- how many times a class stands in a list
  abbrev times : ℕ → List ℕ → ℕ
  times k [] = 0
  times k (c ∷ rest) = cond (nat_eq k c) 1 0 + times k rest

  -- class by class, and state by state
  abbrev by_class : List ℕ → List ℕ → ℕ
  by_class states [] = 0
  by_class states (c ∷ rest) = in_class states c * f c + by_class states rest

  abbrev by_state : List ℕ → List ℕ → ℕ
  by_state [] classes = 0
  by_state (s ∷ rest) classes = times (class_of s) classes * (ps.weight s * f (class_of s)) + by_state rest classes

  by_class-none : (classes : List ℕ) → by_class [] classes ≡ 0
  by_class-none [] = refl
  by_class-none (c ∷ rest) = omega (arith, by_class-none rest)

  by_class-more : (s : ℕ) (states classes : List ℕ) → by_class (s ∷ states) classes ≡ times (class_of s) classes * (ps.weight s * f (class_of s)) + by_class states classes
  by_class-more s states [] = omega arith
  by_class-more s states (c ∷ rest) = elim (cases_Bool (nat_eq (class_of s) c)) [
    | inl y ↦
        (let same : class_of s ≡ c = eqb-true (class_of s) c y in
        let e : ps.weight s * f (class_of s) ≡ ps.weight s * f c = ap (λ k. ps.weight s * f k) same in
        let h = by_class-more s states rest in
        rw y (omega arith))
    | inr n ↦ (let h = by_class-more s states rest in rw n (omega arith))
  ]

  by_class-by_state : (states classes : List ℕ) → by_class states classes ≡ by_state states classes
  by_class-by_state [] classes = by_class-none classes
  by_class-by_state (s ∷ states) classes = by_class-more s states classes ∙ ap (λ n. times (class_of s) classes * (ps.weight s * f (class_of s)) + n) (by_class-by_state states classes)

  times-before : (k from n : ℕ) → k < from → times k (count_up from n) ≡ 0
  times-before k from zero lt = refl
  times-before k from (suc n) lt = elim (cases_Bool (nat_eq k from)) [
    | inl y ↦ (let same : k ≡ from = eqb-true k from y in absurd (omega arith))
    | inr ne ↦ rw ne (let h = times-before k (suc from) n (omega arith) in omega arith)
  ]

  times-once : (k from n : ℕ) → from ≤ k → k < from + n → times k (count_up from n) ≡ 1
  times-once k from zero le lt = absurd (let h : ⊥ = omega arith in h)
  times-once k from (suc n) le lt = elim (cases_Bool (nat_eq k from)) [
    | inl y ↦ (let same : k ≡ from = eqb-true k from y in rw y (let h = times-before k (suc from) n (omega arith) in omega arith))
    | inr ne ↦ (let differ : k ≢ from = eqb-false k from ne in rw ne (let h = times-once k (suc from) n (omega arith) (omega arith) in omega arith))
  ]

module _ (ps pc : Problem) (class_of : ℕ → ℕ) (q : IsGathered ps pc class_of) (tree : Tree) (only : AsksOnly ps.tests tree) where
  -- what a class's way costs
  abbrev way : ℕ → ℕ
  way c = costs_of pc (asked pc tree c)

  cost-by_class : (classes : List ℕ) → ((c : ℕ) → IsIn c classes → c < pc.classes) → tree_cost pc tree classes ≡ by_class ps class_of way (all_classes ps) classes
  cost-by_class [] within = refl
  cost-by_class (c ∷ rest) within =
      let w = q.weight c (within c (inl refl)) in
      let e : pc.weight c * way c ≡ in_class ps class_of way (all_classes ps) c * way c = ap (λ n. n * way c) w in
      let h = cost-by_class rest (λ d i. within d (inr i)) in
      omega arith

  cost-by_state : (states : List ℕ) → ((s : ℕ) → IsIn s states → s < ps.classes) → tree_cost ps tree states ≡ by_state ps class_of way states (all_classes pc)
  cost-by_state [] within = refl
  cost-by_state (s ∷ rest) within =
      let lt = within s (inl refl) in
      let g = q.goes s lt in
      let one : times ps class_of way (class_of s) (all_classes pc) ≡ 1 = times-once ps class_of way (class_of s) 0 pc.classes (omega arith) (omega arith) in
      let e : ps.weight s * costs_of ps (asked ps tree s) ≡ ps.weight s * way (class_of s) = ap (λ n. ps.weight s * n) (costs-same ps pc class_of q tree s only lt) in
      let h = cost-by_state rest (λ d i. within d (inr i)) in
      rw one (omega arith)

  -- a strategy costs over the states what it costs over the classes
  pub cost-same : tree_cost ps tree (all_classes ps) ≡ tree_cost pc tree (all_classes pc)
  cost-same =
      cost-by_state (all_classes ps) (λ s i. let h = count_up-IsIn s 0 ps.classes i in omega arith)
      ∙ sym (by_class-by_state ps class_of way (all_classes ps) (all_classes pc))
      ∙ sym (cost-by_class (all_classes pc) (λ c i. let h = count_up-IsIn c 0 pc.classes i in omega arith))

module _ (ps pc : Problem) (class_of : ℕ → ℕ) (q : IsGathered ps pc class_of) where
  weight-by_class : (classes : List ℕ) → ((c : ℕ) → IsIn c classes → c < pc.classes) → weight_of pc classes ≡ by_class ps class_of (λ c. 1) (all_classes ps) classes
  weight-by_class [] within = refl
  weight-by_class (c ∷ rest) within =
      let w = q.weight c (within c (inl refl)) in
      let h = weight-by_class rest (λ d i. within d (inr i)) in
      omega arith

  weight-by_state : (states : List ℕ) → ((s : ℕ) → IsIn s states → s < ps.classes) → weight_of ps states ≡ by_state ps class_of (λ c. 1) states (all_classes pc)
  weight-by_state [] within = refl
  weight-by_state (s ∷ rest) within =
      let lt = within s (inl refl) in
      let g = q.goes s lt in
      let one : times ps class_of (λ c. 1) (class_of s) (all_classes pc) ≡ 1 = times-once ps class_of (λ c. 1) (class_of s) 0 pc.classes (omega arith) (omega arith) in
      let h = weight-by_state rest (λ d i. within d (inr i)) in
      rw one (omega arith)

  -- the states weigh together what the classes weigh
  pub weight-same : weight_of ps (all_classes ps) ≡ weight_of pc (all_classes pc)
  weight-same =
      weight-by_state (all_classes ps) (λ s i. let h = count_up-IsIn s 0 ps.classes i in omega arith)
      ∙ sym (by_class-by_state ps class_of (λ c. 1) (all_classes ps) (all_classes pc))
      ∙ sym (weight-by_class (all_classes pc) (λ c i. let h = count_up-IsIn c 0 pc.classes i in omega arith))

module _ (ps pc : Problem) (class_of : ℕ → ℕ) (q : IsGathered ps pc class_of) where
  pub solves-classes : (tree : Tree) → Solves ps tree (all_classes ps) → Solves pc tree (all_classes pc)
  solves-classes tree s = record { there = subst (λ n. AsksOnly n tree) q.tests s.there; right = right-of_classes ps pc class_of q tree s.there s.right }

  pub solves-states : (tree : Tree) → Solves pc tree (all_classes pc) → Solves ps tree (all_classes ps)
  solves-states tree s =
      let only = subst (λ n. AsksOnly n tree) (sym q.tests) s.there in
      record { there = only; right = right-of_states ps pc class_of q tree only s.right }

  pub least-classes : (n : ℕ) → IsLeast ps (all_classes ps) n → IsLeast pc (all_classes pc) n
  least-classes n l = record {
    reached = (let r = l.reached in (r.0, solves-classes r.0 r.1, sym (cost-same ps pc class_of q r.0 r.1.there) ∙ r.2));
    least = λ tree s. let s' = solves-states tree s in let c = cost-same ps pc class_of q tree s'.there in let h = l.least tree s' in omega arith;
  }

  pub least-states : (n : ℕ) → IsLeast pc (all_classes pc) n → IsLeast ps (all_classes ps) n
  least-states n l = record {
    reached = (let r = l.reached in let s' = solves-states r.0 r.1 in (r.0, s', cost-same ps pc class_of q r.0 s'.there ∙ r.2));
    least = λ tree s. let s' = solves-classes tree s in let c = cost-same ps pc class_of q tree s.there in let h = l.least tree s' in omega arith;
  }

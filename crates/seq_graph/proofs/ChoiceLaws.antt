-- The loops over the evaluated tests: the test of least sum so far, and the least value so far.
use Rattle.std.proofs.Common.{◌≡◌, ◌⊎◌, ℕ, ◌*◌, ◌<◌, ◌≤◌, max, min, List, [], ◌∷◌, ◌++◌, refl, sym, ap, ◌∙◌, arith, inl, inr, subst, Option, Some, None}
use Rattle.std.specs.Prelude.{Bool, true, false, cond, nat_le, nat_lt, nat_eq, ◌&&◌, ◌||◌, map}
use Rattle.std.proofs.lemmas.Bool.{cases_Bool, cases_lt, true≢false, ltb-true, lt-ltb, le-ltb, eqb-true, eq-eqb, leb-true, leb-false}
use Rattle.std.proofs.lemmas.List.Elements.{All-nil, All-push, All-weaker, Contains-push, Contains-append_left}
use Rattle.std.specs.List.{filter_map, cons_option}
use Rattle.seq_theory.specs.Problem.{Problem, IsIn, IsWithin, AreTold, splits, splitting, weight_of, is_end, least_of}
use Rattle.seq_theory.specs.Bound.{bound, step_sum}
use Rattle.seq_theory.specs.Greedy.{first_least}
use Rattle.seq_theory.proofs.LeastOfLaws.{first_least-is}
use Rattle.seq_theory.proofs.LeastLaws.{step_reaches, IsIn-count_up}
use Rattle.seq_theory.proofs.GroupLaws.{IsIn-filter}
use Rattle.seq_inst.specs.declared.group.Group.{Group}
use Rattle.seq_inst.specs.declared.instance.Instance.{Instance}
use Rattle.seq_inst.specs.Members.{members}
use Rattle.seq_inst.specs.Instances.{problem_of}
use Rattle.seq_theory.proofs.BelowLaws.{product-le}
use Rattle.seq_graph.specs.declared.node.Split.{Split}
use Rattle.seq_graph.specs.declared.choice.Chosen.{Chosen}
use Rattle.seq_graph.specs.Choice.{lesser_split, lesser_value, IsBefore, IsLeastOf, IsChoice}

-- ---- the evaluated test of least sum ----

is-before : (a n x y : ℕ) → (nat_lt a n || (nat_eq a n && nat_le x y)) ≡ true → (a < n) ⊎ ((a ≡ n) × (x ≤ y))
is-before a n x y e = elim (cases_Bool (nat_lt a n)) [
  | inl l ↦ inl (ltb-true a n l)
  | inr o ↦ elim (cases_Bool (nat_eq a n)) [
    | inl same ↦ inr (eqb-true a n same, leb-true x y (rw (o, same) at e))
    | inr other ↦ absurd (true≢false (sym (rw (o, other) at e)))
  ]
]

is-behind : (a n x y : ℕ) → (nat_lt a n || (nat_eq a n && nat_le x y)) ≡ false → (n < a) ⊎ ((n ≡ a) × (y ≤ x))
is-behind a n x y e = elim (cases_lt n a) [
  | inl l ↦ inl l
  | inr le ↦ elim (cases_lt a n) [
    | inl l ↦ absurd (true≢false (rw (lt-ltb a n l) at e))
    | inr ge ↦ elim (cases_lt y x) [
      | inl l ↦ inr ((let same : n ≡ a = omega arith in same), (let le : y ≤ x = omega arith in le))
      | inr above ↦ inr ((let same : n ≡ a = omega arith in same), leb-from (let o : nat_lt a n ≡ false = le-ltb a n ge in rw (o, eq-eqb a n (omega arith)) at e))
    ]
  ]
]
  where
    leb-from : nat_le x y ≡ false → y ≤ x
    leb-from f = let l = leb-false x y f in omega arith

choice-one : (f : ℕ → ℕ) (t : Split) (n : ℕ) → n ≡ f t.test → IsLeastOf f (t ∷ []) (record { split = t; sum = n })
choice-one f t n v = record { among = (0, omega arith, refl); sum = v; least = All-push (IsBefore f (record { split = t; sum = n })) [] t (All-nil (IsBefore f (record { split = t; sum = n }))) (inr (v, omega arith)) }

choice-stays : (f : ℕ → ℕ) (xs : List Split) (t : Split) (n : ℕ) (c : Chosen) → IsLeastOf f xs c → n ≡ f t.test → (c.sum < n) ⊎ ((c.sum ≡ n) × (c.split.test ≤ t.test)) → IsLeastOf f (xs ++ t ∷ []) c
choice-stays f xs t n c h v before = record {
  among = Contains-append_left xs (t ∷ []) c.split h.among;
  sum = h.sum;
  least = All-push (IsBefore f c) xs t h.least (elim before [ inl l ↦ inl (omega arith) | inr e ↦ inr (e.0 ∙ v, e.1) ]);
}

choice-changes : (f : ℕ → ℕ) (xs : List Split) (t : Split) (n : ℕ) (c : Chosen) → IsLeastOf f xs c → n ≡ f t.test → (n < c.sum) ⊎ ((n ≡ c.sum) × (t.test ≤ c.split.test)) → IsLeastOf f (xs ++ t ∷ []) (record { split = t; sum = n })
choice-changes f xs t n c h v before = record {
  among = Contains-push xs t;
  sum = v;
  least = All-push (IsBefore f (record { split = t; sum = n })) xs t (All-weaker (IsBefore f c) (IsBefore f (record { split = t; sum = n })) earlier xs h.least) (inr (v, omega arith));
}
  where
    earlier : (s : Split) → IsBefore f c s → IsBefore f (record { split = t; sum = n }) s
    earlier s (inl l) = elim before [ inl m ↦ inl (omega arith) | inr e ↦ (let e0 = e.0 in inl (omega arith)) ]
    earlier s (inr k) = (let k0 = k.0 in let k1 = k.1 in elim before [ inl m ↦ inl (omega arith) | inr e ↦ (let e0 = e.0 in let e1 = e.1 in inr (omega arith, omega arith)) ])

pub choice-more : (f : ℕ → ℕ) (xs more : List Split) (t : Split) (n : ℕ) (o : Option Chosen) → IsChoice f xs o → more ≡ xs ++ t ∷ [] → n ≡ f t.test → IsChoice f more (Some (lesser_split o t n))
choice-more f xs more t n None s e v = subst (λ l. IsLeastOf f l (record { split = t; sum = n })) (sym (e ∙ ap (λ l. l ++ t ∷ []) s)) (choice-one f t n v)
choice-more f xs more t n (Some c) s e v = subst (λ l. IsLeastOf f l (lesser_split (Some c) t n)) (sym e) (elim (cases_Bool (nat_lt c.sum n || (nat_eq c.sum n && nat_le c.split.test t.test))) [
  | inl y ↦ rw y (choice-stays f xs t n c s v (is-before c.sum n c.split.test t.test y))
  | inr o ↦ rw o (choice-changes f xs t n c s v (is-behind c.sum n c.split.test t.test o))
])

-- ---- some test splits a group of two goals ----

pub first_least-in : (f : ℕ → ℕ) (x : ℕ) (xs : List ℕ) → IsIn (first_least f (x ∷ xs)) (x ∷ xs)
first_least-in f x [] = inl refl
first_least-in f x (y ∷ rest) = go (nat_le (f x) (f (first_least f (y ∷ rest)))) (first_least-in f y rest)
  where
    go : (b : Bool) → IsIn (first_least f (y ∷ rest)) (y ∷ rest) → IsIn (cond b x (first_least f (y ∷ rest))) (x ∷ y ∷ rest)
    go true i = inl refl
    go false i = inr i

pub record IsFirst (f : ℕ → ℕ) (xs : List ℕ) (t : ℕ) : Type 0 where
  pub among : IsIn t xs
  pub least : f t ≡ least_of (map f xs)

first_least-all : (f : ℕ → ℕ) (u : ℕ) (xs : List ℕ) → IsIn u xs → IsFirst f xs (first_least f xs)
first_least-all f u [] i = absurd i
first_least-all f u (x ∷ xs) i = record { among = first_least-in f x xs; least = first_least-is f x xs }

module _ (p : Problem) where
  some-splits : (group : List ℕ) → AreTold p → IsWithin p group → is_end p group ≡ false → (t : ℕ) × IsIn t (splitting p group)
  some-splits group told within e =
      let r = step_reaches p group told within e in
      let there = r.1 in
      (r.0, IsIn-filter (splits p group) r.0 _ (IsIn-count_up r.0 0 p.tests (omega arith) (omega arith)) r.2)

  pub least_test-first : (f : ℕ → ℕ) (group : List ℕ) (t : ℕ) → AreTold p → IsWithin p group → is_end p group ≡ false → t ≡ first_least f (splitting p group) → IsFirst f (splitting p group) t
  least_test-first f group t told within e is =
      let s = some-splits group told within e in
      subst (IsFirst f (splitting p group)) (sym is) (first_least-all f s.0 (splitting p group) s.1)

  -- the most to which the group may be raised
  pub most_low-is : (l : List ℕ → ℕ) (group : List ℕ) (t b sum : ℕ) → b ≡ bound p group → sum ≡ step_sum p l group t → IsFirst (step_sum p l group) (splitting p group) t → max b sum ≡ max (bound p group) (least_of (map (step_sum p l group) (splitting p group)))
  most_low-is l group t b sum is e first = ap (λ n. max n sum) is ∙ ap (max (bound p group)) (e ∙ first.least)

-- ---- the least value so far ----

least-last : (g y : ℕ) (ys : List ℕ) → least_of (g ∷ (ys ++ y ∷ [])) ≡ min (least_of (g ∷ ys)) y
least-last g y [] = refl
least-last g y (z ∷ zs) = let e = least-last z y zs in omega arith

filter_map-last : (f : ℕ → Option ℕ) (xs : List ℕ) (t : ℕ) → filter_map f (xs ++ t ∷ []) ≡ filter_map f xs ++ cons_option (f t) []
filter_map-last f [] t = refl
filter_map-last f (x ∷ xs) t = go (f x) (filter_map-last f xs t)
  where
    go : (o : Option ℕ) → filter_map f (xs ++ t ∷ []) ≡ filter_map f xs ++ cons_option (f t) [] → cons_option o (filter_map f (xs ++ t ∷ [])) ≡ cons_option o (filter_map f xs) ++ cons_option (f t) []
    go None e = e
    go (Some y) e = ap (λ l. y ∷ l) e

append-nil : (xs : List ℕ) → xs ++ [] ≡ xs
append-nil [] = refl
append-nil (x ∷ xs) = ap (λ l. x ∷ l) (append-nil xs)

pub least_value-more : (f : ℕ → Option ℕ) (g n t : ℕ) (xs more : List ℕ) → n ≡ least_of (g ∷ filter_map f xs) → more ≡ xs ++ t ∷ [] → (v : Option ℕ) → v ≡ f t → lesser_value n v ≡ least_of (g ∷ filter_map f more)
least_value-more f g n t xs more is e v at = ap (lesser_value n) at ∙ go (f t) refl ∙ sym (ap (λ l. least_of (g ∷ filter_map f l)) e)
  where
    go : (o : Option ℕ) → f t ≡ o → lesser_value n o ≡ least_of (g ∷ filter_map f (xs ++ t ∷ []))
    go None at = is ∙ sym (ap (λ l. least_of (g ∷ l)) (filter_map-last f xs t ∙ ap (λ o. filter_map f xs ++ cons_option o []) at ∙ append-nil (filter_map f xs)))
    go (Some y) at = ap (λ m. min m y) is ∙ sym (ap (λ l. least_of (g ∷ l)) (filter_map-last f xs t ∙ ap (λ o. filter_map f xs ++ cons_option o []) at) ∙ least-last g y (filter_map f xs))

-- ---- a sum of one test and what its parts count fits ----

pub sum-fits : (inst : Instance) (g : Group) (cost weight test : ℕ) → IsWithin (problem_of inst) (members g) → test < (problem_of inst).tests → cost ≡ (problem_of inst).cost test → weight ≡ weight_of (problem_of inst) (members g) → cost * weight ≤ 4097000000000000
sum-fits inst g cost weight test within there c w =
    let most = (inst.valid.costs test there).1 in
    let l = inst.stands.light g within in
    product-le cost weight 1000000 4097000000 (omega arith) (omega arith)

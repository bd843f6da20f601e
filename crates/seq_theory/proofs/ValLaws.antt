-- The value of an entered group is the cost of a right strategy, and falls with the entered groups.
use Rattle.std.proofs.Common.{◌≡◌, ℕ, zero, suc, ◌+◌, ◌*◌, ◌<◌, ◌≤◌, min, List, [], ◌∷◌, length, refl, sym, ap, ◌∙◌, arith, inl, inr, subst, Option, Some, None}
use Rattle.std.specs.Prelude.{true, false}
use Rattle.std.specs.List.{filter_map, cons_option}
use Rattle.std.proofs.lemmas.Bool.{cases_Bool, cases_lt}
use Rattle.seq_theory.specs.Problem.{Problem, IsIn, IsWithin, AreTold, fails, pass_part, fail_part, splitting, weight_of, is_end, least_of}
use Rattle.seq_theory.specs.Greedy.{greedy_cost}
use Rattle.seq_theory.specs.Graph.{is_entered, sum_with, step_value, val_step, val}
use Rattle.seq_theory.proofs.GroupLaws.{pass_part_smaller, fail_part_smaller}
use Rattle.seq_theory.proofs.LeastLaws.{least, least-end, step-least}
use Rattle.seq_theory.proofs.PartsRecursion.{IsLocal, by_parts-step, filter_map-agree, splitting-splits, splitting-there}
use Rattle.seq_theory.proofs.GreedyLaws.{least-le-greedy, part-within}

-- ---- lists of values ----

-- the least of a number and the values that are there
pub least_of-values-le : (first : ℕ) (f : ℕ → Option ℕ) (t v : ℕ) (xs : List ℕ) → IsIn t xs → f t ≡ Some v → least_of (first ∷ filter_map f xs) ≤ v
least_of-values-le first f t v [] i e = absurd i
least_of-values-le first f t v (x ∷ xs) (inl s) e = rw (ap f s ∙ e) (min-second first v (filter_map f xs))
  where
    min-second : (a b : ℕ) (rest : List ℕ) → least_of (a ∷ b ∷ rest) ≤ b
    min-second a b [] = omega arith
    min-second a b (y ∷ rest) = omega arith
least_of-values-le first f t v (x ∷ xs) (inr i) e = go (f x) (least_of-values-le first f t v xs i e)
  where
    go : (o : Option ℕ) → least_of (first ∷ filter_map f xs) ≤ v → least_of (first ∷ cons_option o (filter_map f xs)) ≤ v
    go None h = h
    go (Some y) h = skip (filter_map f xs) h
      where
        skip : (rest : List ℕ) → least_of (first ∷ rest) ≤ v → least_of (first ∷ y ∷ rest) ≤ v
        skip [] h = omega arith
        skip (z ∷ rest) h = omega arith

-- it is one of them
pub data IsLeastValue (first : ℕ) (f : ℕ → Option ℕ) (xs : List ℕ) (n : ℕ) : Type 0 where
  is_first : first ≡ n → IsLeastValue first f xs n
  is_at : (t : ℕ) → IsIn t xs → f t ≡ Some n → IsLeastValue first f xs n

least_of-swap : (first y : ℕ) (rest : List ℕ) → least_of (first ∷ y ∷ rest) ≡ min y (least_of (first ∷ rest))
least_of-swap first y [] = omega arith
least_of-swap first y (z ∷ rest) = omega arith

pub least_of-first : (first : ℕ) (rest : List ℕ) → least_of (first ∷ rest) ≤ first
least_of-first first [] = omega arith
least_of-first first (y ∷ rest) = omega arith

pub least_value : (first : ℕ) (f : ℕ → Option ℕ) (xs : List ℕ) → IsLeastValue first f xs (least_of (first ∷ filter_map f xs))
least_value first f [] = is_first refl
least_value first f (x ∷ xs) = go (f x) refl (least_value first f xs)
  where
    lift : (n : ℕ) → IsLeastValue first f xs n → IsLeastValue first f (x ∷ xs) n
    lift n (is_first e) = is_first e
    lift n (is_at t i e) = is_at t (inr i) e

    go : (o : Option ℕ) → f x ≡ o → IsLeastValue first f xs (least_of (first ∷ filter_map f xs)) → IsLeastValue first f (x ∷ xs) (least_of (first ∷ cons_option o (filter_map f xs)))
    go None e h = lift _ h
    go (Some y) e h = elim (cases_lt (least_of (first ∷ filter_map f xs)) y) [
      | inl lt ↦ subst (IsLeastValue first f (x ∷ xs)) (let s = least_of-swap first y (filter_map f xs) in let is : least_of (first ∷ filter_map f xs) ≡ least_of (first ∷ y ∷ filter_map f xs) = omega arith in is) (lift _ h)
      | inr ge ↦ is_at x (inl refl) (e ∙ ap (λ n. Some n) (let s = least_of-swap first y (filter_map f xs) in let is : y ≡ least_of (first ∷ y ∷ filter_map f xs) = omega arith in is))
    ]

pub values-at_least : (m first : ℕ) (f : ℕ → Option ℕ) (xs : List ℕ) → m ≤ first → ((t v : ℕ) → IsIn t xs → f t ≡ Some v → m ≤ v) → m ≤ least_of (first ∷ filter_map f xs)
values-at_least m first f xs h each = go (least_of (first ∷ filter_map f xs)) (least_value first f xs)
  where
    go : (n : ℕ) → IsLeastValue first f xs n → m ≤ n
    go n (is_first e) = omega arith
    go n (is_at t i e) = each t n i e

-- both parts have values, where their sum has one
pub record HasParts (n : ℕ) (a b : Option ℕ) (v : ℕ) : Type 0 where
  pub left : ℕ
  pub right : ℕ
  pub left_is : a ≡ Some left
  pub right_is : b ≡ Some right
  pub sum : v ≡ n + (left + right)

pub sum_with-parts : (n : ℕ) (a b : Option ℕ) (v : ℕ) → sum_with n a b ≡ Some v → HasParts n a b v
sum_with-parts n None b v e = absurd (let h : ⊥ = cc in h)
sum_with-parts n (Some x) None v e = absurd (let h : ⊥ = cc in h)
sum_with-parts n (Some x) (Some y) v e = record { left = x; right = y; left_is = refl; right_is = refl; sum = let s : n + (x + y) ≡ v = cc in sym s }

module _ (p : Problem) where
  val-local : (entered : List (List ℕ)) → IsLocal (λ _. Unit {0}) (val_step p entered)
  val-local entered f g group q same = elim (cases_Bool (is_end p group)) [
    | inl e ↦ rw e refl
    | inr e ↦ rw e (elim (cases_Bool (is_entered entered group)) [
      | inl i ↦ rw i (ap (λ l. Some (least_of (greedy_cost p group ∷ l))) (filter_map-agree (step_value p f group) (step_value p g group) (splitting p group) (λ t it.
          let s = splitting-splits p group t it in
          ap (λ a. sum_with (p.cost t * weight_of p group) a (f (fail_part p t group))) (same (pass_part p t group) (pass_part_smaller p t group s) tt)
          ∙ ap (λ b. sum_with (p.cost t * weight_of p group) (g (pass_part p t group)) b) (same (fail_part p t group) (fail_part_smaller p t group s) tt))))
      | inr i ↦ rw i refl
    ])
  ]

  pub val-step : (entered : List (List ℕ)) (group : List ℕ) → val p entered group ≡ val_step p entered (val p entered) group
  val-step entered group = by_parts-step (λ _. Unit {0}) None (val_step p entered) (val-local entered) group tt

  pub val-end : (entered : List (List ℕ)) (group : List ℕ) → is_end p group ≡ true → val p entered group ≡ Some 0
  val-end entered group e = val-step entered group ∙ rw e refl

  pub val-entered : (entered : List (List ℕ)) (group : List ℕ) → is_end p group ≡ false → is_entered entered group ≡ true → val p entered group ≡ Some (least_of (greedy_cost p group ∷ filter_map (step_value p (val p entered) group) (splitting p group)))
  val-entered entered group e i = val-step entered group ∙ rw (e, i) refl

  pub val-other : (entered : List (List ℕ)) (group : List ℕ) → is_end p group ≡ false → is_entered entered group ≡ false → val p entered group ≡ None
  val-other entered group e i = val-step entered group ∙ rw (e, i) refl

  pub some-one : (x y : ℕ) (o : Option ℕ) → o ≡ Some x → o ≡ Some y → x ≡ y
  some-one x y o a b = cc

  -- ---- it is at least the least cost ----

  least-le-val-step : (entered : List (List ℕ)) (group : List ℕ) (v : ℕ) → AreTold p → IsWithin p group → ((part : List ℕ) (u : ℕ) → length part < length group → IsWithin p part → val p entered part ≡ Some u → least p part ≤ u) → val p entered group ≡ Some v → least p group ≤ v
  least-le-val-step entered group v told within below is = elim (cases_Bool (is_end p group)) [
    | inl e ↦ (let f = some-one 0 v (val p entered group) (val-end entered group e) is in let g = least-end p group e in omega arith)
    | inr e ↦ elim (cases_Bool (is_entered entered group)) [
      | inr i ↦ absurd (let f = val-other entered group e i in let h : ⊥ = cc in h)
      | inl i ↦
          (let f = some-one _ v (val p entered group) (val-entered entered group e i) is in
          let g = values-at_least (least p group) (greedy_cost p group) (step_value p (val p entered) group) (splitting p group) (least-le-greedy p group told within) (λ t u it eu.
          let s = splitting-splits p group t it in
          let parts = sum_with-parts (p.cost t * weight_of p group) (val p entered (pass_part p t group)) (val p entered (fail_part p t group)) u eu in
          let f1 = below (pass_part p t group) parts.left (pass_part_smaller p t group s) (part-within p (p.passes t) group within) parts.left_is in
          let f2 = below (fail_part p t group) parts.right (fail_part_smaller p t group s) (part-within p (fails p t) group within) parts.right_is in
          let f3 = step-least p group t told within (splitting-there p group t it) s in
          let f4 = parts.sum in
          omega arith) in
          subst (λ n. least p group ≤ n) f g)
    ]
  ]

  least-le-val-to : (n : ℕ) (entered : List (List ℕ)) (group : List ℕ) (v : ℕ) → length group ≤ n → AreTold p → IsWithin p group → val p entered group ≡ Some v → least p group ≤ v
  least-le-val-to zero entered group v le told within is = least-le-val-step entered group v told within (λ part u lt wp e. absurd (let h : ⊥ = omega arith in h)) is
  least-le-val-to (suc n) entered group v le told within is = least-le-val-step entered group v told within (λ part u lt wp e. least-le-val-to n entered part u (omega arith) told wp e) is

  pub least-le-val : (entered : List (List ℕ)) (group : List ℕ) (v : ℕ) → AreTold p → IsWithin p group → val p entered group ≡ Some v → least p group ≤ v
  least-le-val entered group v = least-le-val-to (length group) entered group v (omega arith)

  -- ---- it falls with the entered groups ----

  -- a value that is at most another
  pub record IsBelow (o : Option ℕ) (v : ℕ) : Type 0 where
    pub value : ℕ
    pub is : o ≡ Some value
    pub le : value ≤ v

  val-falls-step : (old new : List (List ℕ)) (group : List ℕ) (v : ℕ) → ((g : List ℕ) → is_entered old g ≡ true → is_entered new g ≡ true) → ((part : List ℕ) (u : ℕ) → length part < length group → val p old part ≡ Some u → IsBelow (val p new part) u) → val p old group ≡ Some v → IsBelow (val p new group) v
  val-falls-step old new group v more below is = elim (cases_Bool (is_end p group)) [
    | inl e ↦ record { value = 0; is = val-end new group e; le = omega arith }
    | inr e ↦ elim (cases_Bool (is_entered old group)) [
      | inr i ↦ absurd (let f = val-other old group e i in let h : ⊥ = cc in h)
      | inl i ↦
          (let f = some-one _ v (val p old group) (val-entered old group e i) is in
          record {
            value = least_of (greedy_cost p group ∷ filter_map (step_value p (val p new) group) (splitting p group));
            is = val-entered new group e (more group i);
            le = go v (subst (IsLeastValue (greedy_cost p group) (step_value p (val p old) group) (splitting p group)) f (least_value (greedy_cost p group) (step_value p (val p old) group) (splitting p group)));
          })
    ]
  ]
    where
      go : (n : ℕ) → IsLeastValue (greedy_cost p group) (step_value p (val p old) group) (splitting p group) n → least_of (greedy_cost p group ∷ filter_map (step_value p (val p new) group) (splitting p group)) ≤ n
      go n (is_first e) = let f = least_of-first (greedy_cost p group) (filter_map (step_value p (val p new) group) (splitting p group)) in omega arith
      go n (is_at t it e) =
          let s = splitting-splits p group t it in
          let parts = sum_with-parts (p.cost t * weight_of p group) (val p old (pass_part p t group)) (val p old (fail_part p t group)) n e in
          let b1 = below (pass_part p t group) parts.left (pass_part_smaller p t group s) parts.left_is in
          let b2 = below (fail_part p t group) parts.right (fail_part_smaller p t group s) parts.right_is in
          let is2 : step_value p (val p new) group t ≡ Some (p.cost t * weight_of p group + (b1.value + b2.value)) = ap (λ a. sum_with (p.cost t * weight_of p group) a (val p new (fail_part p t group))) b1.is ∙ ap (λ b. sum_with (p.cost t * weight_of p group) (Some b1.value) b) b2.is in
          let f = least_of-values-le (greedy_cost p group) (step_value p (val p new) group) t _ (splitting p group) it is2 in
          let l1 = b1.le in
          let l2 = b2.le in
          let l3 = parts.sum in
          omega arith

  val-falls-to : (n : ℕ) (old new : List (List ℕ)) (group : List ℕ) (v : ℕ) → length group ≤ n → ((g : List ℕ) → is_entered old g ≡ true → is_entered new g ≡ true) → val p old group ≡ Some v → IsBelow (val p new group) v
  val-falls-to zero old new group v le more is = val-falls-step old new group v more (λ part u lt e. absurd (let h : ⊥ = omega arith in h)) is
  val-falls-to (suc n) old new group v le more is = val-falls-step old new group v more (λ part u lt e. val-falls-to n old new part u (omega arith) more e) is

  pub val-falls : (old new : List (List ℕ)) (group : List ℕ) (v : ℕ) → ((g : List ℕ) → is_entered old g ≡ true → is_entered new g ≡ true) → val p old group ≡ Some v → IsBelow (val p new group) v
  val-falls old new group v = val-falls-to (length group) old new group v (omega arith)

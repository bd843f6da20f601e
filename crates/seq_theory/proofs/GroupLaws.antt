-- Groups and their parts.
use Rattle.std.proofs.Common.{◌≡◌, ℕ, ◌+◌, ◌<◌, ◌≤◌, List, [], ◌∷◌, length, refl, sym, ap, ◌∙◌, arith, ◌⊎◌, inl, inr}
use Rattle.std.specs.Prelude.{Bool, true, false, not, nat_eq, filter}
use Rattle.std.specs.List.{list_any, list_all}
use Rattle.std.proofs.lemmas.Bool.{cases_Bool, and_parts, and_cases, eqb-true, eq-eqb, false≢true, and_from, or_parts, not-false}
use Rattle.seq_theory.specs.Problem.{Problem, IsIn, fails, pass_part, fail_part, splits, weight_of, is_end}

-- of a filter
module _ (f : ℕ → Bool) where
  pub IsIn-filter : (c : ℕ) (xs : List ℕ) → IsIn c xs → f c ≡ true → IsIn c (filter f xs)
  IsIn-filter c [] i e = i
  IsIn-filter c (x ∷ xs) (inl s) e = let e' : f x ≡ true = ap f s ∙ e in rw e' (inl s)
  IsIn-filter c (x ∷ xs) (inr i) e = elim (cases_Bool (f x)) [
    | inl y ↦ rw y (inr (IsIn-filter c xs i e))
    | inr n ↦ rw n (IsIn-filter c xs i e)
  ]

  pub filter-IsIn : (c : ℕ) (xs : List ℕ) → IsIn c (filter f xs) → IsIn c xs
  filter-IsIn c [] i = i
  filter-IsIn c (x ∷ xs) i = elim (cases_Bool (f x)) [
    | inl y ↦ elim (rw y at i) [ inl s ↦ inl s | inr j ↦ inr (filter-IsIn c xs j) ]
    | inr n ↦ inr (filter-IsIn c xs (rw n at i))
  ]

  pub filter_passes : (c : ℕ) (xs : List ℕ) → IsIn c (filter f xs) → f c ≡ true
  filter_passes c [] i = absurd i
  filter_passes c (x ∷ xs) i = elim (cases_Bool (f x)) [
    | inl y ↦ elim (rw y at i) [ inl s ↦ sym (ap f s) ∙ y | inr j ↦ filter_passes c xs j ]
    | inr n ↦ filter_passes c xs (rw n at i)
  ]

  pub length-two_filters : (xs : List ℕ) → length (filter f xs) + length (filter (λ x. not (f x)) xs) ≡ length xs
  length-two_filters [] = refl
  length-two_filters (x ∷ xs) = elim (cases_Bool (f x)) [
    | inl y ↦ rw y (omega (arith, length-two_filters xs))
    | inr n ↦ rw n (omega (arith, length-two_filters xs))
  ]

  pub none-filter : (xs : List ℕ) → list_any f xs ≡ false → filter f xs ≡ []
  none-filter [] e = refl
  none-filter (x ∷ xs) e = let p = or_parts (f x) (list_any f xs) e in rw p.0 (none-filter xs p.1)

  pub none-filter_not : (xs : List ℕ) → list_any f xs ≡ false → filter (λ x. not (f x)) xs ≡ xs
  none-filter_not [] e = refl
  none-filter_not (x ∷ xs) e = let p = or_parts (f x) (list_any f xs) e in rw p.0 (ap (λ l. x ∷ l) (none-filter_not xs p.1))

  pub none_fails-filter : (xs : List ℕ) → list_any (λ x. not (f x)) xs ≡ false → filter f xs ≡ xs
  none_fails-filter [] e = refl
  none_fails-filter (x ∷ xs) e =
      let p = or_parts (not (f x)) (list_any (λ x. not (f x)) xs) e in
      let y : f x ≡ true = not-false (f x) p.0 in
      rw y (ap (λ l. x ∷ l) (none_fails-filter xs p.1))

  pub list_any-IsIn : (c : ℕ) (xs : List ℕ) → IsIn c xs → f c ≡ true → list_any f xs ≡ true
  list_any-IsIn c [] i e = absurd i
  list_any-IsIn c (x ∷ xs) (inl s) e = let e' : f x ≡ true = ap f s ∙ e in rw e' refl
  list_any-IsIn c (x ∷ xs) (inr i) e = elim (cases_Bool (f x)) [
    | inl y ↦ rw y refl
    | inr n ↦ rw n (list_any-IsIn c xs i e)
  ]

  pub list_any-found : (xs : List ℕ) → list_any f xs ≡ true → 1 ≤ length (filter f xs)
  list_any-found [] e = absurd (false≢true e)
  list_any-found (x ∷ xs) e = elim (cases_Bool (f x)) [
    | inl y ↦ rw y (omega arith)
    | inr n ↦ rw n (list_any-found xs (rw n at e))
  ]

module _ (p : Problem) where
  -- where a test splits, each part is smaller than the group
  pub pass_part_smaller : (t : ℕ) (xs : List ℕ) → splits p xs t ≡ true → length (pass_part p t xs) < length xs
  pass_part_smaller t xs e =
      let s = and_parts (list_any (p.passes t) xs) (list_any (fails p t) xs) e in
      let f = list_any-found (fails p t) xs s.1 in
      omega (arith, length-two_filters (p.passes t) xs)

  pub fail_part_smaller : (t : ℕ) (xs : List ℕ) → splits p xs t ≡ true → length (fail_part p t xs) < length xs
  fail_part_smaller t xs e =
      let s = and_parts (list_any (p.passes t) xs) (list_any (fails p t) xs) e in
      let f = list_any-found (p.passes t) xs s.0 in
      omega (arith, length-two_filters (p.passes t) xs)

  -- where it doesn't, one part is the group and the other is empty
  pub not_splits : (t : ℕ) (xs : List ℕ) → splits p xs t ≡ false → ((pass_part p t xs ≡ xs) × (fail_part p t xs ≡ [])) ⊎ ((pass_part p t xs ≡ []) × (fail_part p t xs ≡ xs))
  not_splits t xs e = elim (and_cases (list_any (p.passes t) xs) (list_any (fails p t) xs) e) [
    | inl n ↦ inr (none-filter (p.passes t) xs n, none-filter_not (p.passes t) xs n)
    | inr n ↦ inl (none_fails-filter (p.passes t) xs n, none-filter (fails p t) xs n)
  ]

  pub weight_of-parts : (t : ℕ) (xs : List ℕ) → weight_of p xs ≡ weight_of p (pass_part p t xs) + weight_of p (fail_part p t xs)
  weight_of-parts t [] = refl
  weight_of-parts t (x ∷ xs) = elim (cases_Bool (p.passes t x)) [
    | inl y ↦ rw y (omega (arith, weight_of-parts t xs))
    | inr n ↦ rw n (omega (arith, weight_of-parts t xs))
  ]

  list_all_goals : (c : ℕ) (xs : List ℕ) → ((d : ℕ) → IsIn d xs → p.goal d ≡ p.goal c) → list_all (λ d. nat_eq (p.goal d) (p.goal c)) xs ≡ true
  list_all_goals c [] h = refl
  list_all_goals c (x ∷ xs) h = and_from _ _ (eq-eqb (p.goal x) (p.goal c) (h x (inl refl))) (list_all_goals c xs (λ d i. h d (inr i)))

  goals_list_all : (c : ℕ) (xs : List ℕ) → list_all (λ d. nat_eq (p.goal d) (p.goal c)) xs ≡ true → (d : ℕ) → IsIn d xs → p.goal d ≡ p.goal c
  goals_list_all c [] e d i = absurd i
  goals_list_all c (x ∷ xs) e d i =
      let s = and_parts (nat_eq (p.goal x) (p.goal c)) (list_all (λ d. nat_eq (p.goal d) (p.goal c)) xs) e in
      elim i [
        | inl same ↦ sym (ap p.goal same) ∙ eqb-true (p.goal x) (p.goal c) s.0
        | inr j ↦ goals_list_all c xs s.1 d j
      ]

  -- a group is an end exactly where its classes have one goal
  pub is_end-from_goals : (xs : List ℕ) → ((a b : ℕ) → IsIn a xs → IsIn b xs → p.goal a ≡ p.goal b) → is_end p xs ≡ true
  is_end-from_goals [] h = refl
  is_end-from_goals (x ∷ xs) h = list_all_goals x xs (λ d i. h d x (inr i) (inl refl))

  pub goals-from_is_end : (xs : List ℕ) → is_end p xs ≡ true → (a b : ℕ) → IsIn a xs → IsIn b xs → p.goal a ≡ p.goal b
  goals-from_is_end [] e a b i j = absurd i
  goals-from_is_end (x ∷ xs) e a b i j = first x xs e a i ∙ sym (first x xs e b j)
    where
      first : (x : ℕ) (xs : List ℕ) → is_end p (x ∷ xs) ≡ true → (a : ℕ) → IsIn a (x ∷ xs) → p.goal a ≡ p.goal x
      first x xs e a (inl s) = sym (ap p.goal s)
      first x xs e a (inr i) = goals_list_all x xs e a i

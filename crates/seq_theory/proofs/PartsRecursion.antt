-- Values that are made from the values of smaller groups.
use Rattle.std.proofs.Common.{◌≡◌, ℕ, zero, suc, ◌<◌, ◌≤◌, List, [], ◌∷◌, length, refl, ap, ◌∙◌, arith, inl, inr}
use Rattle.std.specs.Prelude.{true, map, Option}
use Rattle.std.specs.List.{filter_map, cons_option}
use Rattle.seq_theory.specs.Problem.{Problem, IsIn, pass_part, fail_part, splits, splitting, count_up, least_of}
use Rattle.seq_theory.specs.Bound.{step_sum}
use Rattle.seq_theory.specs.Greedy.{to_depth, by_parts}
use Rattle.seq_theory.proofs.GroupLaws.{filter-IsIn, filter_passes, pass_part_smaller, fail_part_smaller}
use Rattle.seq_theory.proofs.LeastLaws.{count_up-IsIn}

-- at the groups that Q speaks of, the step reads the values of smaller ones of these alone
abbrev pub IsLocal : {A : Type 0} → (List ℕ → Type 0) → ((List ℕ → A) → List ℕ → A) → Type 0
IsLocal {A} Q step = (f g : List ℕ → A) (group : List ℕ) → Q group → ((part : List ℕ) → length part < length group → Q part → f part ≡ g part) → step f group ≡ step g group

module _ {A : Type 0} (Q : List ℕ → Type 0) (other : A) (step : (List ℕ → A) → List ℕ → A) (local : IsLocal Q step) where
  to_depth-enough : (n m : ℕ) (group : List ℕ) → Q group → length group < n → length group < m → to_depth other step n group ≡ to_depth other step m group
  to_depth-enough zero m group q h1 h2 = absurd (let h : ⊥ = omega arith in h)
  to_depth-enough (suc n) zero group q h1 h2 = absurd (let h : ⊥ = omega arith in h)
  to_depth-enough (suc n) (suc m) group q h1 h2 = local (to_depth other step n) (to_depth other step m) group q (λ part lt qp. to_depth-enough n m part qp (omega arith) (omega arith))

  -- the value at a group is the step from the values at its parts
  pub by_parts-step : (group : List ℕ) → Q group → by_parts other step group ≡ step (by_parts other step) group
  unfolding by_parts
  by_parts-step group q = local (to_depth other step (length group)) (λ part. to_depth other step (suc (length part)) part) group q
      (λ part lt qp. to_depth-enough (length group) (suc (length part)) part qp lt (omega arith))

pub map-agree : {A : Type 0} (f g : ℕ → A) (xs : List ℕ) → ((t : ℕ) → IsIn t xs → f t ≡ g t) → map f xs ≡ map g xs
map-agree f g [] h = refl
map-agree {A} f g (x ∷ xs) h = ap (λ y. y ∷ map f xs) (h x (inl refl)) ∙ ap (λ (l : List A). g x ∷ l) (map-agree f g xs (λ t i. h t (inr i)))

pub filter_map-agree : (f g : ℕ → Option ℕ) (xs : List ℕ) → ((t : ℕ) → IsIn t xs → f t ≡ g t) → filter_map f xs ≡ filter_map g xs
filter_map-agree f g [] h = refl
filter_map-agree f g (x ∷ xs) h = ap (λ o. cons_option o (filter_map f xs)) (h x (inl refl)) ∙ ap (cons_option (g x)) (filter_map-agree f g xs (λ t i. h t (inr i)))

module _ (p : Problem) where
  -- a splitting test is there, splits, and has smaller parts
  pub splitting-splits : (group : List ℕ) (t : ℕ) → IsIn t (splitting p group) → splits p group t ≡ true
  splitting-splits group t i = filter_passes (splits p group) t (count_up 0 p.tests) i

  pub splitting-there : (group : List ℕ) (t : ℕ) → IsIn t (splitting p group) → t < p.tests
  splitting-there group t i = let w = count_up-IsIn t 0 p.tests (filter-IsIn (splits p group) t (count_up 0 p.tests) i) in omega arith

  pub step_sum-agree : (f g : List ℕ → ℕ) (group : List ℕ) → ((part : List ℕ) → length part < length group → f part ≡ g part) → (t : ℕ) → IsIn t (splitting p group) → step_sum p f group t ≡ step_sum p g group t
  step_sum-agree f g group same t i =
      let e = splitting-splits group t i in
      let f1 = same (pass_part p t group) (pass_part_smaller p t group e) in
      let f2 = same (fail_part p t group) (fail_part_smaller p t group e) in
      omega arith

-- the least of two lists, member by member
pub least_of-mono : (f g : ℕ → ℕ) (xs : List ℕ) → ((t : ℕ) → IsIn t xs → f t ≤ g t) → least_of (map f xs) ≤ least_of (map g xs)
least_of-mono f g [] h = omega arith
least_of-mono f g (x ∷ []) h = h x (inl refl)
least_of-mono f g (x ∷ y ∷ rest) h =
    let a = h x (inl refl) in
    let b = least_of-mono f g (y ∷ rest) (λ t i. h t (inr i)) in
    omega arith

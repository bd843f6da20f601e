-- Where each class is its own goal, the weights that goals have in a group are the weights of its classes.
use Rattle.std.proofs.Common.{◌≡◌, ◌≢◌, ℕ, zero, suc, ◌+◌, ◌<◌, ◌≤◌, List, [], ◌∷◌, refl, sym, ap, ◌∙◌, arith, inl, inr, subst}
use Rattle.std.specs.Prelude.{Bool, true, false, filter, map, nat_eq}
use Rattle.std.specs.List.{list_any}
use Rattle.std.proofs.lemmas.Bool.{cases_Bool, cases_lt, eqb-true, eq-eqb, ne_eqb, false≢true}
use Rattle.seq_theory.specs.Problem.{count_up, IsIn, IsWithin, weight_of}
use Rattle.seq_theory.specs.Bound.{goal_weight, goal_weights}
use Rattle.seq_theory.proofs.GroupLaws.{IsIn-filter, filter-IsIn, filter_passes, list_any-IsIn}
use Rattle.seq_theory.proofs.LeastLaws.{count_up-IsIn}
use Rattle.seq_theory.proofs.PartsRecursion.{map-agree}
use Rattle.seq_theory.proofs.BelowLaws.{passing-within}
use Rattle.seq_theory.specs.Below.{passing_below}
use Rattle.seq_inst.specs.declared.group.Group.{Group}
use Rattle.seq_inst.specs.declared.instance.Instance.{Instance}
use Rattle.seq_inst.specs.Members.{has_class, members}
use Rattle.seq_inst.specs.Instances.{problem_of}

filter_same : (f g : ℕ → Bool) (xs : List ℕ) → ((c : ℕ) → IsIn c xs → f c ≡ g c) → filter f xs ≡ filter g xs
filter_same f g [] h = refl
filter_same f g (x ∷ xs) h =
    let rest = filter_same f g xs (λ c i. h c (inr i)) in
    elim (cases_Bool (g x)) [
      | inl y ↦ (let e : f x ≡ true = h x (inl refl) ∙ y in rw (e, y) (ap (λ l. x ∷ l) rest))
      | inr n ↦ (let e : f x ≡ false = h x (inl refl) ∙ n in rw (e, n) rest)
    ]

-- a number is one of the list exactly where it is
any_is : (g : ℕ) (xs : List ℕ) → list_any (λ c. nat_eq c g) xs ≡ true → IsIn g xs
any_is g [] e = absurd (false≢true e)
any_is g (x ∷ xs) e = elim (cases_Bool (nat_eq x g)) [
  | inl y ↦ inl (eqb-true x g y)
  | inr n ↦ inr (any_is g xs (rw n at e))
]

any_at : (g : ℕ) (xs : List ℕ) → IsIn g xs → list_any (λ c. nat_eq c g) xs ≡ true
any_at g xs i = list_any-IsIn (λ c. nat_eq c g) g xs i (eq-eqb g g refl)

same_test : (a b : Bool) → (a ≡ true → b ≡ true) → (b ≡ true → a ≡ true) → a ≡ b
same_test true b f g = sym (f refl)
same_test false true f g = g refl
same_test false false f g = refl

-- the filter of a filter by a number is that number
only_one : (f : ℕ → Bool) (g from n : ℕ) → f g ≡ true → from ≤ g → g < from + n → filter (λ c. nat_eq c g) (filter f (count_up from n)) ≡ g ∷ []
only_one f g from zero e le lt = absurd (let bad : ⊥ = omega arith in bad)
only_one f g from (suc n) e le lt = elim (cases_lt from g) [
  | inl below ↦
      (let ne : from ≢ g = (λ s. let bad : ⊥ = omega arith in bad) in
      let rest = only_one f g (suc from) n e below (omega arith) in
      elim (cases_Bool (f from)) [
        | inl y ↦ rw (y, ne_eqb from g ne) rest
        | inr no' ↦ rw no' rest
      ])
  | inr ge ↦
      (let is : from ≡ g = omega arith in
      let y : f from ≡ true = ap f is ∙ e in
      rw (y, eq-eqb from g is) (ap (λ x. x ∷ filter (λ c. nat_eq c g) (filter f (count_up (suc from) n))) is ∙ ap (λ l. g ∷ l) (none (suc from) n (omega arith))))
]
  where
    none : (from n : ℕ) → g < from → filter (λ c. nat_eq c g) (filter f (count_up from n)) ≡ []
    none from zero lt = refl
    none from (suc n) lt =
        let ne : from ≢ g = (λ s. let bad : ⊥ = omega arith in bad) in
        elim (cases_Bool (f from)) [
          | inl y ↦ rw (y, ne_eqb from g ne) (none (suc from) n (omega arith))
          | inr no' ↦ rw no' (none (suc from) n (omega arith))
        ]

module _ (inst : Instance) (g : Group) where
  goals-filter : (f : ℕ → Bool) (n : ℕ) → filter (λ h. list_any (λ c. nat_eq c h) (filter f (count_up 0 n))) (count_up 0 n) ≡ filter f (count_up 0 n)
  goals-filter f n = filter_same (λ h. list_any (λ c. nat_eq c h) (filter f (count_up 0 n))) f (count_up 0 n) (λ h i. same_test _ _
      (λ e. filter_passes f h (count_up 0 n) (any_is h (filter f (count_up 0 n)) e))
      (λ e. any_at h (filter f (count_up 0 n)) (IsIn-filter f h (count_up 0 n) i e)))

  weights-one : (f : ℕ → Bool) (n h : ℕ) → IsIn h (filter f (count_up 0 n)) → goal_weight (problem_of inst) (filter f (count_up 0 n)) h ≡ (problem_of inst).weight h
  weights-one f n h i =
      let w = count_up-IsIn h 0 n (filter-IsIn f h (count_up 0 n) i) in
      ap (weight_of (problem_of inst)) (only_one f h 0 n (filter_passes f h (count_up 0 n) i) (omega arith) (omega arith))
      ∙ (let e : (problem_of inst).weight h + 0 ≡ (problem_of inst).weight h = omega arith in e)

  goal_weights-filter : (f : ℕ → Bool) → goal_weights (problem_of inst) (filter f (count_up 0 (problem_of inst).classes)) ≡ map (problem_of inst).weight (filter f (count_up 0 (problem_of inst).classes))
  goal_weights-filter f =
      let n = (problem_of inst).classes in
      ap (map (goal_weight (problem_of inst) (filter f (count_up 0 n)))) (goals-filter f n)
      ∙ map-agree (goal_weight (problem_of inst) (filter f (count_up 0 n))) (problem_of inst).weight (filter f (count_up 0 n)) (weights-one f n)

  pub goal_weights-members : IsWithin (problem_of inst) (members g) → goal_weights (problem_of inst) (members g) ≡ map (problem_of inst).weight (members g)
  unfolding passing_below
  goal_weights-members within =
      let e = passing-within (problem_of inst) (has_class g) 512 inst.valid.few within in
      subst (λ xs. goal_weights (problem_of inst) xs ≡ map (problem_of inst).weight xs) e (goal_weights-filter (has_class g))

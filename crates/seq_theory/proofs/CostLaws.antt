-- What a strategy costs, by its first test; and rightness by the leaves.
use Rattle.std.proofs.Common.{◌≡◌, ℕ, ◌+◌, ◌*◌, List, [], ◌∷◌, refl, sym, ap, ◌∙◌, arith, inl, inr}
use Rattle.std.specs.Prelude.{Bool, true, false, not}
use Rattle.std.proofs.lemmas.Bool.{cases_Bool, true≢false, false≢true, not-true}
use Rattle.seq_theory.specs.Problem.{Problem, fails, pass_part, fail_part, weight_of, is_end}
use Rattle.seq_theory.specs.Tree.{Tree, leaf, ask, answers, tree_cost, IsRight}
use Rattle.seq_theory.proofs.GroupLaws.{IsIn-filter, filter-IsIn, filter_passes, is_end-from_goals, goals-from_is_end}

-- each leaf is reached by classes of one goal
abbrev pub Settles : Problem → Tree → List ℕ → Type 0
Settles p leaf group = is_end p group ≡ true
Settles p (ask t pass fail) group = Settles p pass (pass_part p t group) × Settles p fail (fail_part p t group)

module _ (p : Problem) where
  pub tree_cost-leaf : (xs : List ℕ) → tree_cost p leaf xs ≡ 0
  tree_cost-leaf [] = refl
  tree_cost-leaf (x ∷ xs) = omega (arith, tree_cost-leaf xs)

  pub tree_cost-ask : (t : ℕ) (pass fail : Tree) (xs : List ℕ) → tree_cost p (ask t pass fail) xs ≡ p.cost t * weight_of p xs + (tree_cost p pass (pass_part p t xs) + tree_cost p fail (fail_part p t xs))
  tree_cost-ask t pass fail [] = omega arith
  tree_cost-ask t pass fail (x ∷ xs) = elim (cases_Bool (p.passes t x)) [
    | inl y ↦ rw y (omega (arith, tree_cost-ask t pass fail xs))
    | inr n ↦ rw n (omega (arith, tree_cost-ask t pass fail xs))
  ]

  answers-pass : (t : ℕ) (pass fail : Tree) (c : ℕ) → p.passes t c ≡ true → answers p (ask t pass fail) c ≡ true ∷ answers p pass c
  answers-pass t pass fail c e = rw e refl

  answers-fail : (t : ℕ) (pass fail : Tree) (c : ℕ) → p.passes t c ≡ false → answers p (ask t pass fail) c ≡ false ∷ answers p fail c
  answers-fail t pass fail c e = rw e refl

  pub Settles-from_right : (tree : Tree) (xs : List ℕ) → IsRight p tree xs → Settles p tree xs
  Settles-from_right leaf xs r = is_end-from_goals p xs (λ a b i j. r a b i j refl)
  Settles-from_right (ask t pass fail) xs r = (
    Settles-from_right pass (pass_part p t xs) (λ a b i j e.
        r a b (filter-IsIn (p.passes t) a xs i) (filter-IsIn (p.passes t) b xs j)
        (answers-pass t pass fail a (filter_passes (p.passes t) a xs i) ∙ ap (λ l. true ∷ l) e ∙ sym (answers-pass t pass fail b (filter_passes (p.passes t) b xs j)))),
    Settles-from_right fail (fail_part p t xs) (λ a b i j e.
        r a b (filter-IsIn (fails p t) a xs i) (filter-IsIn (fails p t) b xs j)
        (answers-fail t pass fail a (not-true (p.passes t a) (filter_passes (fails p t) a xs i)) ∙ ap (λ l. false ∷ l) e ∙ sym (answers-fail t pass fail b (not-true (p.passes t b) (filter_passes (fails p t) b xs j))))),
  )

  pub right-from_Settles : (tree : Tree) (xs : List ℕ) → Settles p tree xs → IsRight p tree xs
  right-from_Settles leaf xs s a b i j e = goals-from_is_end p xs s a b i j
  right-from_Settles (ask t pass fail) xs s a b i j e = elim (cases_Bool (p.passes t a)) [
    | inl ya ↦ elim (cases_Bool (p.passes t b)) [
      | inl yb ↦
          (let e' = sym (answers-pass t pass fail a ya) ∙ e ∙ answers-pass t pass fail b yb in
          right-from_Settles pass (pass_part p t xs) s.0 a b (IsIn-filter (p.passes t) a xs i ya) (IsIn-filter (p.passes t) b xs j yb) (tails e'))
      | inr nb ↦ absurd (true≢false (sym ya ∙ heads e ∙ nb))
    ]
    | inr na ↦ elim (cases_Bool (p.passes t b)) [
      | inl yb ↦ absurd (false≢true (sym na ∙ heads e ∙ yb))
      | inr nb ↦
          (let e' = sym (answers-fail t pass fail a na) ∙ e ∙ answers-fail t pass fail b nb in
          right-from_Settles fail (fail_part p t xs) s.1 a b (IsIn-filter (fails p t) a xs i (ap not na)) (IsIn-filter (fails p t) b xs j (ap not nb)) (tails e'))
    ]
  ]
    where
      heads : {a b : Bool} {xs ys : List Bool} → a ∷ xs ≡ b ∷ ys → a ≡ b
      heads e = cc

      tails : {a b : Bool} {xs ys : List Bool} → a ∷ xs ≡ b ∷ ys → xs ≡ ys
      tails e = cc

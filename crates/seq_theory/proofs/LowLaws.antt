-- The low of a group is at most its least cost, and grows with the entered groups.
use Rattle.std.proofs.Common.{◌≡◌, ℕ, zero, suc, ◌<◌, ◌≤◌, max, List, length, refl, ap, ◌∙◌, arith, inl, inr}
use Rattle.std.specs.Prelude.{true, false, map}
use Rattle.std.proofs.lemmas.Bool.{cases_Bool}
use Rattle.seq_theory.specs.Problem.{Problem, IsWithin, IsWeighed, AreTold, pass_part, fail_part, splitting, is_end, least_of}
use Rattle.seq_theory.specs.Bound.{bound, step_sum}
use Rattle.seq_theory.specs.Graph.{is_entered, low_step, low}
use Rattle.seq_theory.proofs.GroupLaws.{pass_part_smaller, fail_part_smaller}
use Rattle.seq_theory.proofs.LeastLaws.{least}
use Rattle.seq_theory.proofs.PartsRecursion.{IsLocal, by_parts-step, map-agree, step_sum-agree, splitting-splits, least_of-mono}
use Rattle.seq_theory.proofs.GreedyLaws.{bound-le-least, least_of-steps-le, bound-end}

module _ (p : Problem) where
  low-local : (entered : List (List ℕ)) → IsLocal (λ _. Unit {0}) (low_step p entered)
  low-local entered f g group q same = elim (cases_Bool (is_end p group)) [
    | inl e ↦ rw e refl
    | inr e ↦ rw e (elim (cases_Bool (is_entered entered group)) [
      | inl i ↦ rw i (ap (λ l. max (bound p group) (least_of l)) (map-agree (step_sum p f group) (step_sum p g group) (splitting p group) (step_sum-agree p f g group (λ part lt. same part lt tt))))
      | inr i ↦ rw i refl
    ])
  ]

  pub low-step : (entered : List (List ℕ)) (group : List ℕ) → low p entered group ≡ low_step p entered (low p entered) group
  low-step entered group = by_parts-step (λ _. Unit {0}) 0 (low_step p entered) (low-local entered) group tt

  pub low-end : (entered : List (List ℕ)) (group : List ℕ) → is_end p group ≡ true → low p entered group ≡ 0
  low-end entered group e = low-step entered group ∙ rw e refl

  pub low-entered : (entered : List (List ℕ)) (group : List ℕ) → is_end p group ≡ false → is_entered entered group ≡ true → low p entered group ≡ max (bound p group) (least_of (map (step_sum p (low p entered) group) (splitting p group)))
  low-entered entered group e i = low-step entered group ∙ rw (e, i) refl

  pub low-other : (entered : List (List ℕ)) (group : List ℕ) → is_end p group ≡ false → is_entered entered group ≡ false → low p entered group ≡ bound p group
  low-other entered group e i = low-step entered group ∙ rw (e, i) refl

  -- it is never below the bound
  pub bound-le-low : (entered : List (List ℕ)) (group : List ℕ) → bound p group ≤ low p entered group
  bound-le-low entered group = elim (cases_Bool (is_end p group)) [
    | inl e ↦ (let f = bound-end p group e in omega arith)
    | inr e ↦ elim (cases_Bool (is_entered entered group)) [
      | inl i ↦ (let f = low-entered entered group e i in omega arith)
      | inr i ↦ (let f = low-other entered group e i in omega arith)
    ]
  ]

  low-le-step : (entered : List (List ℕ)) (group : List ℕ) → IsWeighed p → AreTold p → IsWithin p group → ((part : List ℕ) → length part < length group → IsWithin p part → low p entered part ≤ least p part) → low p entered group ≤ least p group
  low-le-step entered group w told within below = elim (cases_Bool (is_end p group)) [
    | inl e ↦ (let f = low-end entered group e in omega arith)
    | inr e ↦ elim (cases_Bool (is_entered entered group)) [
      | inr i ↦ (let f = low-other entered group e i in let g = bound-le-least p group w told within in omega arith)
      | inl i ↦
          (let f = low-entered entered group e i in
          let g = bound-le-least p group w told within in
          let s : least_of (map (step_sum p (low p entered) group) (splitting p group)) ≤ least p group = least_of-steps-le p (low p entered) group told within e below in
          omega arith)
    ]
  ]

  low-le : (n : ℕ) (entered : List (List ℕ)) (group : List ℕ) → length group ≤ n → IsWeighed p → AreTold p → IsWithin p group → low p entered group ≤ least p group
  low-le zero entered group le w told within = low-le-step entered group w told within (λ part lt wp. absurd (let h : ⊥ = omega arith in h))
  low-le (suc n) entered group le w told within = low-le-step entered group w told within (λ part lt wp. low-le n entered part (omega arith) w told wp)

  -- the low is at most the least cost, whatever was entered
  pub low-le-least : (entered : List (List ℕ)) (group : List ℕ) → IsWeighed p → AreTold p → IsWithin p group → low p entered group ≤ least p group
  low-le-least entered group = low-le (length group) entered group (omega arith)

  -- ---- it grows with the entered groups ----

  low-grows-step : (old new : List (List ℕ)) (group : List ℕ) → ((g : List ℕ) → is_entered old g ≡ true → is_entered new g ≡ true) → ((part : List ℕ) → length part < length group → low p old part ≤ low p new part) → low p old group ≤ low p new group
  low-grows-step old new group more below = elim (cases_Bool (is_end p group)) [
    | inl e ↦ (let f = low-end old group e in omega arith)
    | inr e ↦ elim (cases_Bool (is_entered old group)) [
      | inr i ↦ (let f = low-other old group e i in let g = bound-le-low new group in omega arith)
      | inl i ↦
          (let f = low-entered old group e i in
          let g = low-entered new group e (more group i) in
          let m = least_of-mono (step_sum p (low p old) group) (step_sum p (low p new) group) (splitting p group) (λ t it.
          let s = splitting-splits p group t it in
          let f1 = below (pass_part p t group) (pass_part_smaller p t group s) in
          let f2 = below (fail_part p t group) (fail_part_smaller p t group s) in
          omega arith) in
          omega arith)
    ]
  ]

  low-grows-to : (n : ℕ) (old new : List (List ℕ)) (group : List ℕ) → length group ≤ n → ((g : List ℕ) → is_entered old g ≡ true → is_entered new g ≡ true) → low p old group ≤ low p new group
  low-grows-to zero old new group le more = low-grows-step old new group more (λ part lt. absurd (let h : ⊥ = omega arith in h))
  low-grows-to (suc n) old new group le more = low-grows-step old new group more (λ part lt. low-grows-to n old new part (omega arith) more)

  pub low-grows : (old new : List (List ℕ)) (group : List ℕ) → ((g : List ℕ) → is_entered old g ≡ true → is_entered new g ≡ true) → low p old group ≤ low p new group
  low-grows old new group = low-grows-to (length group) old new group (omega arith)

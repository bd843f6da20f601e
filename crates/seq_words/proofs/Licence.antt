-- What some rows allow of a group, others allow too that know more: that have each of these rows with a low that is no lower and
-- an up that is no higher. So a raise that a seat's view allows is allowed in the core of the words.
use Rattle.std.proofs.Common.{◌≡◌, ◌⊎◌, inl, inr, ℕ, ◌+◌, ◌*◌, ◌≤◌, List, [], ◌∷◌, refl, sym, ap, ◌∙◌, subst, arith, Option, Some, None}
use Rattle.std.specs.Prelude.{Bool, true, false, cond, nat_eq}
use Rattle.std.specs.List.{filter_map}
use Rattle.std.proofs.lemmas.Bool.{cases_Bool, true≢false, eqb-true, eq-eqb}
use Rattle.seq_theory.specs.Problem.{Problem, pass_part, fail_part, splitting, weight_of, is_end}
use Rattle.seq_theory.specs.Bound.{step_sum}
use Rattle.seq_theory.specs.Greedy.{greedy_cost}
use Rattle.seq_theory.specs.Graph.{same_group, is_entered, step_value, sum_with}
use Rattle.seq_theory.specs.Rows.{Row, no_value, groups_of, IsRow, AreDistinct, row_for, up_or, known_low, known_up, most_low, least_up}
use Rattle.seq_words.specs.Laws.{AreBettered, KnowingMoreAllows}
use Rattle.seq_theory.proofs.PartsRecursion.{least_of-mono}
use Rattle.seq_theory.proofs.ValLaws.{least_of-values-le, least_of-first, values-at_least, sum_with-parts}
use Rattle.seq_theory.proofs.RowLaws.{same_group-true, same_group-refl, or-left, or-right}

-- the row of a group that is found
record Found (rows : List Row) (group : List ℕ) (r : Row) : Type 0 where
  among : IsRow r rows
  same : group ≡ r.group

found-row : (rows : List Row) (group : List ℕ) (r : Row) → row_for rows group ≡ Some r → Found rows group r
found-row [] group r e = absurd (let h : ⊥ = cc in h)
found-row (s ∷ rest) group r e = go (same_group group s.group) refl e (found-row rest group r)
  where
    go : (b : Bool) → same_group group s.group ≡ b → cond b (Some s) (row_for rest group) ≡ Some r → (row_for rest group ≡ Some r → Found rest group r) → Found (s ∷ rest) group r
    go true y e later = let is : s ≡ r = cc in record { among = inl is; same = same_group-true group s.group y ∙ ap (λ x. x.group) is }
    go false n e later = let f = later e in record { among = inr f.among; same = f.same }

cases_row : (o : Option Row) → (o ≡ None) ⊎ ((r : Row) × (o ≡ Some r))
cases_row None = inl refl
cases_row (Some r) = inr (r, refl)

among-entered : (r : Row) (rows : List Row) → IsRow r rows → is_entered (groups_of rows) r.group ≡ true
among-entered r [] i = absurd i
among-entered r (s ∷ rest) (inl e) = or-left _ _ (subst (λ g. same_group r.group g ≡ true) (sym (ap (λ x. x.group) e)) (same_group-refl r.group))
among-entered r (s ∷ rest) (inr i) = or-right (same_group r.group s.group) _ (among-entered r rest i)

-- where no group stands twice, a row is the one of its group
row-of_group : (rows : List Row) (r : Row) → AreDistinct (groups_of rows) → IsRow r rows → row_for rows r.group ≡ Some r
row-of_group [] r d i = absurd i
row-of_group (s ∷ rest) r d (inl e) = subst (λ (x : Row). row_for (x ∷ rest) r.group ≡ Some r) (sym e) (rw (same_group-refl r.group) refl)
row-of_group (s ∷ rest) r d (inr i) = go (same_group r.group s.group) refl (row-of_group rest r d.1 i)
  where
    go : (b : Bool) → same_group r.group s.group ≡ b → row_for rest r.group ≡ Some r → cond b (Some s) (row_for rest r.group) ≡ Some r
    go true y later = absurd (true≢false (sym (among-entered r rest i) ∙ ap (is_entered (groups_of rest)) (same_group-true r.group s.group y) ∙ d.0))
    go false n later = later

bound-is : (x u : ℕ) → cond (nat_eq x no_value) None (Some x) ≡ Some u → x ≡ u
bound-is x u e = go (nat_eq x no_value) e
  where
    go : (b : Bool) → cond b None (Some x) ≡ Some u → x ≡ u
    go true e = absurd (let bad : ⊥ = cc in bad)
    go false e = cc

not-most : (x u : ℕ) → cond (nat_eq x no_value) None (Some x) ≡ Some u → nat_eq x no_value ≡ false
not-most x u e = go (nat_eq x no_value) refl e
  where
    go : (b : Bool) → nat_eq x no_value ≡ b → cond b None (Some x) ≡ Some u → nat_eq x no_value ≡ false
    go true y e = absurd (let bad : ⊥ = cc in bad)
    go false n e = n

no-row : (u : ℕ) → up_or None ≡ Some u → ⊥
no-row u e = let bad : ⊥ = cc in bad

eq-same : (x y : ℕ) → x ≡ y → nat_eq y y ≡ true → nat_eq x y ≡ true
eq-same x y e t = subst (λ z. nat_eq z y ≡ true) (sym e) t

-- below the most it is a value
some-up : (x : ℕ) → ((nat_eq x no_value ≡ true) → ⊥) → cond (nat_eq x no_value) None (Some x) ≡ Some x
some-up x h = go (nat_eq x no_value) refl
  where
    go : (b : Bool) → nat_eq x no_value ≡ b → cond b None (Some x) ≡ Some x
    go true y = absurd (h y)
    go false n = refl

refl-true : (x : ℕ) → nat_eq x x ≡ true
refl-true x = eq-eqb x x refl

-- a value that is no greater
record IsNoMore (o : Option ℕ) (u : ℕ) : Type 0 where
  value : ℕ
  is : o ≡ Some value
  le : value ≤ u

module _ (p : Problem) (known rows : List Row) (distinct : AreDistinct (groups_of rows)) (bettered : AreBettered known rows) where
  known_low-grows : (group : List ℕ) → known_low p known group ≤ known_low p rows group
  known_low-grows group = elim (cases_Bool (is_end p group)) [
    | inl e ↦ rw e (omega arith)
    | inr e ↦ rw e (elim (cases_row (row_for known group)) [
      | inl n ↦ rw n (elim (cases_row (row_for rows group)) [ inl m ↦ rw m (omega arith) | inr other ↦ rw (other.1) (omega arith) ])
      | inr found ↦ rw (found.1)
          (let f = found-row known group found.0 found.1 in
          let b = bettered found.0 f.among in
          let is : row_for rows group ≡ Some b.by = subst (λ g. row_for rows g ≡ Some b.by) (b.group ∙ sym f.same) (row-of_group rows b.by distinct b.among) in
          let l = b.low in
          rw is (omega arith))
    ])
  ]

  -- so what they allow for a raise grows
  pub most_low-grows : (group : List ℕ) → most_low p known group ≤ most_low p rows group
  most_low-grows group =
      let m = least_of-mono (step_sum p (known_low p known) group) (step_sum p (known_low p rows) group) (splitting p group) (λ t it.
      let a = known_low-grows (pass_part p t group) in
      let b = known_low-grows (fail_part p t group) in
      omega arith) in
      omega arith

  known_up-falls : (group : List ℕ) (u : ℕ) → known_up p known group ≡ Some u → IsNoMore (known_up p rows group) u
  known_up-falls group u e = elim (cases_Bool (is_end p group)) [
    | inl y ↦ record { value = 0; is = rw y refl; le = omega arith }
    | inr n ↦ elim (cases_row (row_for known group)) [
      | inl none ↦ absurd (no-row u (sym (ap up_or none) ∙ rw n at e))
      | inr found ↦
          (let h : up_or (row_for known group) ≡ Some u = rw n at e in
          let h2 : up_or (Some found.0) ≡ Some u = sym (ap up_or found.1) ∙ h in
          let f = found-row known group found.0 found.1 in
          let b = bettered found.0 f.among in
          let is : row_for rows group ≡ Some b.by = subst (λ g. row_for rows g ≡ Some b.by) (b.group ∙ sym f.same) (row-of_group rows b.by distinct b.among) in
          let below = b.up in
          let most = b.most in
          let up = bound-is (found.0).up u h2 in
          let short = not-most (found.0).up u h2 in
          let value : up_or (Some b.by) ≡ Some (b.by).up = some-up (b.by).up (λ y.
          let top : (b.by).up ≡ no_value = eqb-true (b.by).up no_value y in
          let top2 : (found.0).up ≡ no_value = omega arith in
          true≢false (sym (eq-same (found.0).up no_value top2 (refl-true no_value)) ∙ short)) in
          record { value = (b.by).up; is = rw n (ap up_or is ∙ value); le = omega arith })
    ]
  ]

  -- and what they allow for a cap falls
  pub least_up-falls : (group : List ℕ) → least_up p rows group ≤ least_up p known group
  least_up-falls group =
      let first = least_of-first (greedy_cost p group) (filter_map (step_value p (known_up p rows) group) (splitting p group)) in
      values-at_least (least_up p rows group) (greedy_cost p group) (step_value p (known_up p known) group) (splitting p group) first (λ t u it eu.
      let parts = sum_with-parts (p.cost t * weight_of p group) (known_up p known (pass_part p t group)) (known_up p known (fail_part p t group)) u eu in
      let b1 = known_up-falls (pass_part p t group) parts.left parts.left_is in
      let b2 = known_up-falls (fail_part p t group) parts.right parts.right_is in
      let is2 : step_value p (known_up p rows) group t ≡ Some (p.cost t * weight_of p group + (b1.value + b2.value)) = ap (λ a. sum_with (p.cost t * weight_of p group) a (known_up p rows (fail_part p t group))) b1.is ∙ ap (λ b. sum_with (p.cost t * weight_of p group) (Some b1.value) b) b2.is in
      let g = least_of-values-le (greedy_cost p group) (step_value p (known_up p rows) group) t _ (splitting p group) it is2 in
      let l1 = b1.le in
      let l2 = b2.le in
      let l3 = parts.sum in
      omega arith)

pub knowing-more : KnowingMoreAllows
knowing-more p known rows distinct bettered group = record {
  low = most_low-grows p known rows distinct bettered group;
  up = least_up-falls p known rows distinct bettered group;
}

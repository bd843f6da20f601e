-- Rows found by their groups. A place leads to its row; where one row changes, or one more is added, the rows of all other
-- groups are found as before.
use Rattle.std.proofs.Common.{◌≡◌, ◌≢◌, ℕ, zero, suc, ◌<◌, List, [], ◌∷◌, ◌++◌, length, set, refl, sym, ap, ◌∙◌, arith, inl, inr, subst, Option, Some, None}
use Rattle.std.specs.Prelude.{true, false, cond}
use Rattle.std.specs.Option.{option_map}
use Rattle.std.proofs.lemmas.Bool.{cases_Bool, or_parts, true≢false}
use Rattle.seq_theory.specs.Graph.{same_group, is_entered}
use Rattle.seq_theory.specs.Rows.{groups_of, row_for, AreDistinct}
use Rattle.seq_theory.proofs.RowLaws.{same_group-true, same_group-refl}
use Rattle.seq_graph.proofs.RowLaws.{row-entered}
use Rattle.seq_inst.specs.declared.group.Group.{Group}
use Rattle.seq_inst.specs.declared.outcome.Row.{Row}
use Rattle.seq_inst.specs.Members.{members}
use Rattle.seq_core.specs.RowsOf.{row_of as row_from, rows_of as rows_from, place_of_group}
use Rattle.seq_graph.specs.Known.{no_row, row_at, group_at}

pub other-group : (g h : List ℕ) → g ≢ h → same_group g h ≡ false
other-group g h ne = elim (cases_Bool (same_group g h)) [ inl y ↦ absurd (ne (same_group-true g h y)) | inr n ↦ n ]

-- ---- a place leads to its row ----

-- the group's row has this place
pub record IsPlaced (rows : List Row) (group : List ℕ) (place : ℕ) : Type 0 where
  pub in_range : place < length rows
  pub same : group ≡ members (group_at rows place)
  pub row_is : row_for (rows_from rows) group ≡ Some (row_from (row_at rows place))

pub place-found : (rows : List Row) (g : List ℕ) (k : ℕ) → place_of_group (rows_from rows) g ≡ Some k → IsPlaced rows g k
place-found [] g k e = absurd (let bad : ⊥ = cc in bad)
place-found (r ∷ rest) g k e = elim (cases_Bool (same_group g (members r.group))) [
  | inl y ↦ here y k (rw y at e)
  | inr n ↦ later n k (place_of_group (rows_from rest) g) refl (λ j is. place-found rest g j is) (rw n at e)
]
  where
    here : same_group g (members r.group) ≡ true → (k : ℕ) → Some 0 ≡ Some k → IsPlaced (r ∷ rest) g k
    here y k e =
        let z : 0 ≡ k = cc in
        subst (IsPlaced (r ∷ rest) g) z (record { in_range = omega arith; same = same_group-true g (members r.group) y; row_is = rw y refl })

    later : same_group g (members r.group) ≡ false → (k : ℕ) (o : Option ℕ) → place_of_group (rows_from rest) g ≡ o → ((j : ℕ) → place_of_group (rows_from rest) g ≡ Some j → IsPlaced rest g j) → option_map suc (place_of_group (rows_from rest) g) ≡ Some k → IsPlaced (r ∷ rest) g k
    later n k None is rec e = absurd (let h : option_map suc None ≡ Some k = sym (ap (option_map suc) is) ∙ e in let bad : ⊥ = cc in bad)
    later n k (Some j) is rec e =
        let f = rec j is in
        let h : Some (suc j) ≡ Some k = sym (ap (option_map suc) is) ∙ e in
        let z : suc j ≡ k = cc in
        subst (IsPlaced (r ∷ rest) g) z (record { in_range = (let t = f.in_range in omega arith); same = f.same; row_is = rw n f.row_is })

pub place-none : (rows : List Row) (g : List ℕ) → place_of_group (rows_from rows) g ≡ None → row_for (rows_from rows) g ≡ None
place-none [] g e = refl
place-none (r ∷ rest) g e = elim (cases_Bool (same_group g (members r.group))) [
  | inl y ↦ absurd (let h : Some 0 ≡ None = rw y at e in let bad : ⊥ = cc in bad)
  | inr n ↦ later n (place_of_group (rows_from rest) g) refl (λ is. place-none rest g is) (rw n at e)
]
  where
    later : same_group g (members r.group) ≡ false → (o : Option ℕ) → place_of_group (rows_from rest) g ≡ o → (place_of_group (rows_from rest) g ≡ None → row_for (rows_from rest) g ≡ None) → option_map suc (place_of_group (rows_from rest) g) ≡ None → row_for (rows_from (r ∷ rest)) g ≡ None
    later n None is rec e = rw n (rec is)
    later n (Some j) is rec e = absurd (let h : option_map suc (Some j) ≡ None = sym (ap (option_map suc) is) ∙ e in let bad : ⊥ = cc in bad)

pub row-at-place : (rows : List Row) (k : ℕ) → AreDistinct (groups_of (rows_from rows)) → k < length rows → row_for (rows_from rows) (members (group_at rows k)) ≡ Some (row_from (row_at rows k))
row-at-place [] k d lt = absurd (let bad : ⊥ = omega arith in bad)
row-at-place (r ∷ rest) zero d lt = rw (same_group-refl (members r.group)) refl
row-at-place (r ∷ rest) (suc k) d lt =
    let there = row-entered rest k no_row (omega arith) in
    let ne : members (group_at rest k) ≢ members r.group = λ e. true≢false (sym (subst (λ g. is_entered (groups_of (rows_from rest)) g ≡ true) e there) ∙ d.0) in
    rw (other-group (members (group_at rest k)) (members r.group) ne) (row-at-place rest k d.1 (omega arith))

-- ---- groups without a row ----

pub absent-row : (rows : List Row) (g : List ℕ) → is_entered (groups_of (rows_from rows)) g ≡ false → row_for (rows_from rows) g ≡ None
absent-row [] g e = refl
absent-row (r ∷ rest) g e = let s = or_parts (same_group g (members r.group)) (is_entered (groups_of (rows_from rest)) g) e in rw s.0 (absent-row rest g s.1)

pub absent-place : (rows : List Row) (g : List ℕ) → row_for (rows_from rows) g ≡ None → place_of_group (rows_from rows) g ≡ None
absent-place [] g e = refl
absent-place (r ∷ rest) g e = elim (cases_Bool (same_group g (members r.group))) [
  | inl y ↦ absurd (let h : Some (row_from r) ≡ None = rw y at e in let bad : ⊥ = cc in bad)
  | inr n ↦ rw n (ap (option_map suc) (absent-place rest g (rw n at e)))
]

-- ---- one row changes ----

pub set-places : (rows : List Row) (k : ℕ) (x : Row) (g : List ℕ) → x.group ≡ group_at rows k → place_of_group (rows_from (set rows k x)) g ≡ place_of_group (rows_from rows) g
set-places [] k x g e = refl
set-places (r ∷ rest) zero x g e = ap (λ (h : Group). cond (same_group g (members h)) (Some 0) (option_map suc (place_of_group (rows_from rest) g))) e
set-places (r ∷ rest) (suc k) x g e = ap (λ o. cond (same_group g (members r.group)) (Some 0) (option_map suc o)) (set-places rest k x g e)

pub set-others : (rows : List Row) (k : ℕ) (x : Row) (g : List ℕ) → x.group ≡ group_at rows k → g ≢ members (group_at rows k) → row_for (rows_from (set rows k x)) g ≡ row_for (rows_from rows) g
set-others [] k x g e ne = refl
set-others (r ∷ rest) zero x g e ne = rw (other-group g (members x.group) (λ s. ne (s ∙ ap members e)), other-group g (members r.group) ne) refl
set-others (r ∷ rest) (suc k) x g e ne = ap (λ o. cond (same_group g (members r.group)) (Some (row_from r)) o) (set-others rest k x g e ne)

-- ---- one row is added ----

pub more-others : (rows : List Row) (x : Row) (g : List ℕ) → g ≢ members x.group → row_for (rows_from (rows ++ x ∷ [])) g ≡ row_for (rows_from rows) g
more-others [] x g ne = rw (other-group g (members x.group) ne) refl
more-others (r ∷ rest) x g ne = ap (λ o. cond (same_group g (members r.group)) (Some (row_from r)) o) (more-others rest x g ne)

pub more-other-places : (rows : List Row) (x : Row) (g : List ℕ) → g ≢ members x.group → place_of_group (rows_from (rows ++ x ∷ [])) g ≡ place_of_group (rows_from rows) g
more-other-places [] x g ne = rw (other-group g (members x.group) ne) refl
more-other-places (r ∷ rest) x g ne = ap (λ o. cond (same_group g (members r.group)) (Some 0) (option_map suc o)) (more-other-places rest x g ne)

pub more-row : (rows : List Row) (x : Row) → is_entered (groups_of (rows_from rows)) (members x.group) ≡ false → row_for (rows_from (rows ++ x ∷ [])) (members x.group) ≡ Some (row_from x)
more-row [] x e = rw (same_group-refl (members x.group)) refl
more-row (r ∷ rest) x e = let s = or_parts (same_group (members x.group) (members r.group)) (is_entered (groups_of (rows_from rest)) (members x.group)) e in rw s.0 (more-row rest x s.1)

pub more-place : (rows : List Row) (x : Row) → is_entered (groups_of (rows_from rows)) (members x.group) ≡ false → place_of_group (rows_from (rows ++ x ∷ [])) (members x.group) ≡ Some (length rows)
more-place [] x e = rw (same_group-refl (members x.group)) refl
more-place (r ∷ rest) x e = let s = or_parts (same_group (members x.group) (members r.group)) (is_entered (groups_of (rows_from rest)) (members x.group)) e in rw s.0 (ap (option_map suc) (more-place rest x s.1))

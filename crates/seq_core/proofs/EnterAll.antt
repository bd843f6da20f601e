-- Distinct groups entered one after another: none has a place when its turn comes.
use Rattle.std.proofs.Common.{◌≡◌, ℕ, zero, suc, ◌<◌, List, [], ◌∷◌, ◌++◌, length, refl, sym, ap, ◌∙◌, arith, inl, inr, subst, None, take}
use Rattle.std.specs.Prelude.{true, false, map}
use Rattle.std.specs.Option.{option_map}
use Rattle.std.proofs.Math.Seq.{take-suc}
use Rattle.std.proofs.lemmas.Bool.{cases_Bool, true≢false, or_parts}
use Rattle.std.proofs.lemmas.List.{map-append}
use Rattle.seq_theory.specs.Graph.{same_group, is_entered}
use Rattle.seq_theory.specs.Rows.{groups_of, AreDistinct}
use Rattle.seq_theory.specs.Rows.{Row as TheoryRow}
use Rattle.seq_theory.proofs.RowLaws.{same_group-true, same_group-refl}
use Rattle.seq_inst.specs.declared.outcome.Row.{Row}
use Rattle.seq_inst.specs.Members.{members}
use Rattle.seq_core.specs.RowsOf.{rows_of, place_of_group}
use Rattle.seq_core.specs.Changes.{new_row}
use Rattle.seq_core.specs.Settled.{groups_in, first_row, row_at}

-- the rows of these groups, of which nothing is known
abbrev pub fresh : List Row → List Row
fresh rows = map (λ r. new_row r.group) rows

pub groups-fresh : (rows : List Row) → groups_in (fresh rows) ≡ groups_in rows
groups-fresh [] = refl
groups-fresh (r ∷ rest) = ap (λ (l : List (List ℕ)). members r.group ∷ l) (groups-fresh rest)

none-place : (rows : List TheoryRow) (g : List ℕ) → is_entered (groups_of rows) g ≡ false → place_of_group rows g ≡ None
none-place [] g e = refl
none-place (r ∷ rest) g e = let s = or_parts (same_group g r.group) (is_entered (groups_of rest) g) e in rw s.0 (ap (option_map suc) (none-place rest g s.1))

other-way : (a b : List ℕ) → same_group b a ≡ false → same_group a b ≡ false
other-way a b e = elim (cases_Bool (same_group a b)) [
  | inr n ↦ n
  | inl y ↦ absurd (true≢false (sym (subst (λ g. same_group g a ≡ true) (same_group-true a b y) (same_group-refl a)) ∙ e))
]

not-same-at : (rows : List Row) (g : List ℕ) (k : ℕ) → k < length rows → is_entered (groups_in rows) g ≡ false → same_group (members (row_at rows k).group) g ≡ false
not-same-at [] g k lt e = absurd (let bad : ⊥ = omega arith in bad)
not-same-at (r ∷ rest) g zero lt e = let s = or_parts (same_group g (members r.group)) (is_entered (groups_in rest) g) e in other-way (members r.group) g s.0
not-same-at (r ∷ rest) g (suc k) lt e = let s = or_parts (same_group g (members r.group)) (is_entered (groups_in rest) g) e in not-same-at rest g k (omega arith) s.1

not-before : (rows : List Row) (k : ℕ) → AreDistinct (groups_in rows) → k < length rows → is_entered (groups_in (take k rows)) (members (row_at rows k).group) ≡ false
not-before [] k d lt = absurd (let bad : ⊥ = omega arith in bad)
not-before (r ∷ rest) zero d lt = refl
not-before (r ∷ rest) (suc k) d lt = rw (not-same-at rest (members r.group) k (omega arith) d.0) (not-before rest k d.1 (omega arith))

pub absent-next : (rows : List Row) (k : ℕ) → AreDistinct (groups_in rows) → k < length rows → place_of_group (rows_of (fresh (take k rows))) (members (row_at rows k).group) ≡ None
absent-next rows k d lt =
    let g = members (row_at rows k).group in
    none-place (rows_of (fresh (take k rows))) g (subst (λ gs. is_entered gs g ≡ false) (sym (groups-fresh (take k rows))) (not-before rows k d lt))

pub fresh-next : (rows : List Row) (k : ℕ) → k < length rows → fresh (take (suc k) rows) ≡ fresh (take k rows) ++ new_row (row_at rows k).group ∷ []
fresh-next rows k lt = ap fresh (take-suc rows k first_row lt) ∙ map-append (λ (r : Row). new_row r.group) (take k rows) (row_at rows k ∷ [])

pub fresh-none : (rows : List Row) → fresh (take 0 rows) ≡ []
fresh-none [] = refl
fresh-none (r ∷ rest) = refl

-- Rows found by their groups: the map has the place of each row, and a place leads to its row.
use Rattle.std.proofs.Common.{◌≡◌, ◌⊎◌, ℕ, zero, suc, ◌+◌, ◌<◌, max, List, [], ◌∷◌, ◌++◌, length, get_or, refl, sym, ap, ◌∙◌, arith, inl, inr, subst, Option, Some, None}
use Rattle.std.specs.Prelude.{true, false, cond, slice_get, nat_eq}
use Rattle.std.specs.Option.{option_map}
use Rattle.std.proofs.lemmas.Bool.{cases_Bool}
use Rattle.seq_theory.specs.Problem.{Problem, is_end}
use Rattle.seq_theory.specs.Bound.{bound}
use Rattle.seq_theory.specs.Graph.{same_group, is_entered}
use Rattle.seq_theory.specs.Rows.{groups_of, IsRow, row_for as theory_row, low_or, up_or, known_low, known_up, no_value}
use Rattle.seq_theory.specs.Rows.{Row as TheoryRow}
use Rattle.seq_theory.proofs.RowLaws.{same_group-true, same_group-refl}
use Rattle.seq_inst.specs.declared.outcome.Row.{Row}
use Rattle.seq_inst.specs.Members.{members}
use Rattle.seq_inst.specs.Valid.{no_class}
use Rattle.seq_core.specs.Mapping.{Placed, place_of}
use Rattle.seq_core.specs.RowsOf.{row_of, rows_of, place_of_group, IsFit, AreFit}
use Rattle.seq_core.specs.Tables.{placed_groups}

abbrev pub no_row : Row
no_row = record { group = no_class; low = 0; up = 0 }

pub length-rows_of : (rows : List Row) → length (rows_of rows) ≡ length rows
length-rows_of [] = refl
length-rows_of (r ∷ rest) = ap suc (length-rows_of rest)

-- the map has the place of each row's group
map-numbers : (n : ℕ) (o : Option ℕ) → option_map (λ k. suc n + k) o ≡ option_map (λ k. n + k) (option_map suc o)
map-numbers n None = refl
map-numbers n (Some k) = ap (λ m. Some m) (let e : suc n + k ≡ n + suc k = omega arith in e)

numbered-from : (n : ℕ) (rows : List Row) (g : List ℕ) → place_of (placed_groups n rows) g ≡ option_map (λ k. n + k) (place_of_group (rows_of rows) g)
numbered-from n [] g = refl
numbered-from n (r ∷ rest) g = elim (cases_Bool (same_group g (members r.group))) [
  | inl y ↦ rw y (ap (λ m. Some m) (let e : n ≡ n + 0 = omega arith in e))
  | inr o ↦ rw o (numbered-from (suc n) rest g ∙ map-numbers n (place_of_group (rows_of rest) g))
]

map-same : (o : Option ℕ) → option_map (λ k. 0 + k) o ≡ o
map-same None = refl
map-same (Some k) = ap (λ m. Some m) (let e : 0 + k ≡ k = omega arith in e)

pub numbered-place : (rows : List Row) (g : List ℕ) → place_of (placed_groups 0 rows) g ≡ place_of_group (rows_of rows) g
numbered-place rows g = numbered-from 0 rows g ∙ map-same (place_of_group (rows_of rows) g)

pub numbered-more : (n : ℕ) (rows : List Row) (r : Row) → placed_groups n (rows ++ r ∷ []) ≡ placed_groups n rows ++ record { group = members r.group; place = n + length rows } ∷ []
numbered-more n [] r = ap (λ m. record { group = members r.group; place = m } ∷ []) (let e : n ≡ n + 0 = omega arith in e)
numbered-more n (s ∷ rest) r =
    ap (λ (l : List Placed). record { group = members s.group; place = n } ∷ l)
    (numbered-more (suc n) rest r ∙ ap (λ m. placed_groups (suc n) rest ++ record { group = members r.group; place = m } ∷ []) (let e : suc n + length rest ≡ n + suc (length rest) = omega arith in e))

pub length-numbered : (n : ℕ) (rows : List Row) → length (placed_groups n rows) ≡ length rows
length-numbered n [] = refl
length-numbered n (r ∷ rest) = ap suc (length-numbered (suc n) rest)

pub find-place : (rows : List Row) (placed : List Placed) (g : List ℕ) (o : Option ℕ) → placed ≡ placed_groups 0 rows → o ≡ place_of placed g → o ≡ place_of_group (rows_of rows) g
find-place rows placed g o e f = f ∙ ap (λ l. place_of l g) e ∙ numbered-place rows g

-- ---- a place leads to its row ----

pub cases_place : (o : Option ℕ) → (o ≡ None) ⊎ ((k : ℕ) × (o ≡ Some k))
cases_place None = inl refl
cases_place (Some k) = inr (k, refl)

pub record Found (rows : List Row) (g : List ℕ) (k : ℕ) : Type 0 where
  pub there : k < length rows
  pub same : g ≡ members (get_or rows k no_row).group
  pub first : theory_row (rows_of rows) g ≡ Some (row_of (get_or rows k no_row))

pub place-found : (rows : List Row) (g : List ℕ) (k : ℕ) → place_of_group (rows_of rows) g ≡ Some k → Found rows g k
place-found [] g k e = absurd (let bad : ⊥ = cc in bad)
place-found (r ∷ rest) g k e = elim (cases_Bool (same_group g (members r.group))) [
  | inl y ↦ here y k (rw y at e)
  | inr n ↦ later n k (place_of_group (rows_of rest) g) refl (λ j is. place-found rest g j is) (rw n at e)
]
  where
    here : same_group g (members r.group) ≡ true → (k : ℕ) → Some 0 ≡ Some k → Found (r ∷ rest) g k
    here y k e =
        let z : 0 ≡ k = cc in
        subst (Found (r ∷ rest) g) z (record { there = omega arith; same = same_group-true g (members r.group) y; first = rw y refl })

    later : same_group g (members r.group) ≡ false → (k : ℕ) (o : Option ℕ) → place_of_group (rows_of rest) g ≡ o → ((j : ℕ) → place_of_group (rows_of rest) g ≡ Some j → Found rest g j) → option_map suc (place_of_group (rows_of rest) g) ≡ Some k → Found (r ∷ rest) g k
    later n k None is rec e = absurd (let h : option_map suc None ≡ Some k = sym (ap (option_map suc) is) ∙ e in let bad : ⊥ = cc in bad)
    later n k (Some j) is rec e =
        let f = rec j is in
        let h : Some (suc j) ≡ Some k = sym (ap (option_map suc) is) ∙ e in
        let z : suc j ≡ k = cc in
        subst (Found (r ∷ rest) g) z (record { there = (let t = f.there in omega arith); same = f.same; first = rw n f.first })

pub record Absent (rows : List Row) (g : List ℕ) : Type 0 where
  pub no_row : theory_row (rows_of rows) g ≡ None
  pub no_group : is_entered (groups_of (rows_of rows)) g ≡ false

pub place-absent : (rows : List Row) (g : List ℕ) → place_of_group (rows_of rows) g ≡ None → Absent rows g
place-absent [] g e = record { no_row = refl; no_group = refl }
place-absent (r ∷ rest) g e = elim (cases_Bool (same_group g (members r.group))) [
  | inl y ↦ absurd (let h : Some 0 ≡ None = rw y at e in let bad : ⊥ = cc in bad)
  | inr n ↦ later n (place_of_group (rows_of rest) g) refl (λ is. place-absent rest g is) (rw n at e)
]
  where
    later : same_group g (members r.group) ≡ false → (o : Option ℕ) → place_of_group (rows_of rest) g ≡ o → (place_of_group (rows_of rest) g ≡ None → Absent rest g) → option_map suc (place_of_group (rows_of rest) g) ≡ None → Absent (r ∷ rest) g
    later n None is rec e = let f = rec is in record { no_row = rw n f.no_row; no_group = rw n f.no_group }
    later n (Some j) is rec e = absurd (let h : Some (suc j) ≡ None = sym (ap (option_map suc) is) ∙ e in let bad : ⊥ = cc in bad)

pub row-among : (rows : List Row) (k : ℕ) → k < length rows → IsRow (row_of (get_or rows k no_row)) (rows_of rows)
row-among [] k lt = absurd (let bad : ⊥ = omega arith in bad)
row-among (r ∷ rest) zero lt = inl refl
row-among (r ∷ rest) (suc k) lt = inr (row-among rest k (omega arith))

pub found-entered : (rows : List Row) (k : ℕ) → k < length rows → is_entered (groups_of (rows_of rows)) (members (get_or rows k no_row).group) ≡ true
found-entered [] k lt = absurd (let bad : ⊥ = omega arith in bad)
found-entered (r ∷ rest) zero lt = rw (same_group-refl (members r.group)) refl
found-entered (r ∷ rest) (suc k) lt = elim (cases_Bool (same_group (members (get_or rest k no_row).group) (members r.group))) [
  | inl y ↦ rw y refl
  | inr n ↦ rw n (found-entered rest k (omega arith))
]

pub get-row : (rows : List Row) (k : ℕ) → k < length rows → slice_get (rows_of rows) k ≡ Some (row_of (get_or rows k no_row))
get-row [] k lt = absurd (let bad : ⊥ = omega arith in bad)
get-row (r ∷ rest) zero lt = refl
get-row (r ∷ rest) (suc k) lt = get-row rest k (omega arith)

-- ---- one row more ----

pub rows_of-more : (rows : List Row) (r : Row) → rows_of (rows ++ r ∷ []) ≡ rows_of rows ++ row_of r ∷ []
rows_of-more [] r = refl
rows_of-more (s ∷ rest) r = ap (λ (l : List TheoryRow). row_of s ∷ l) (rows_of-more rest r)

row-last : (r n : TheoryRow) (rows : List TheoryRow) → IsRow r (rows ++ n ∷ []) → IsRow r rows ⊎ (n ≡ r)
row-last r n [] (inl e) = inr e
row-last r n [] (inr i) = absurd i
row-last r n (s ∷ rest) (inl e) = inl (inl e)
row-last r n (s ∷ rest) (inr i) = elim (row-last r n rest i) [ inl j ↦ inl (inr j) | inr e ↦ inr e ]

pub fit-more : (p : Problem) (rows : List Row) (r : Row) → AreFit p (rows_of rows) → IsFit p (row_of r) → AreFit p (rows_of (rows ++ r ∷ []))
fit-more p rows r a b = subst (AreFit p) (sym (rows_of-more rows r)) (λ x i. elim (row-last x (row_of r) (rows_of rows) i) [
  | inl j ↦ a x j
  | inr e ↦ subst (IsFit p) e b
])

-- ---- what a part counts ----

pub known_low-end : (p : Problem) (rows : List TheoryRow) (g : List ℕ) → is_end p g ≡ true → 0 ≡ known_low p rows g
known_low-end p rows g e = rw e refl

pub known_low-found : (p : Problem) (rows : List Row) (g : List ℕ) (k : ℕ) → is_end p g ≡ false → place_of_group (rows_of rows) g ≡ Some k → known_low p (rows_of rows) g ≡ max (get_or rows k no_row).low (bound p g)
known_low-found p rows g k e at = rw e (ap (low_or (bound p g)) (place-found rows g k at).first)

pub known_low-absent : (p : Problem) (rows : List Row) (g : List ℕ) → is_end p g ≡ false → place_of_group (rows_of rows) g ≡ None → bound p g ≡ known_low p (rows_of rows) g
known_low-absent p rows g e at = sym (rw e (ap (low_or (bound p g)) (place-absent rows g at).no_row))

pub known_up-end : (p : Problem) (rows : List TheoryRow) (g : List ℕ) → is_end p g ≡ true → Some 0 ≡ known_up p rows g
known_up-end p rows g e = rw e refl

pub known_up-found : (p : Problem) (rows : List Row) (g : List ℕ) (k : ℕ) → is_end p g ≡ false → place_of_group (rows_of rows) g ≡ Some k → known_up p (rows_of rows) g ≡ cond (nat_eq (get_or rows k no_row).up no_value) None (Some (get_or rows k no_row).up)
known_up-found p rows g k e at = rw e (ap up_or (place-found rows g k at).first)

pub known_up-absent : (p : Problem) (rows : List Row) (g : List ℕ) → is_end p g ≡ false → place_of_group (rows_of rows) g ≡ None → None ≡ known_up p (rows_of rows) g
known_up-absent p rows g e at = sym (rw e (ap up_or (place-absent rows g at).no_row))

-- The events of the rows, on the rows of the code: a change of one row, a new row, and what sound rows say of a group's least cost.
use Rattle.std.proofs.Common.{◌≡◌, ◌≢◌, inl, inr, ℕ, zero, suc, ◌<◌, List, [], ◌∷◌, ◌++◌, length, set, refl, sym, ap, subst, arith}
use Rattle.std.specs.Prelude.{Bool, true, false, ◌||◌, Some, slice_get}
use Rattle.std.proofs.lemmas.Bool.{cases_Bool}
use mathlib.Core.List.{map-append}
use Rattle.seq_theory.specs.Tree.{IsLeast}
use Rattle.seq_theory.specs.Graph.{same_group, is_entered}
use Rattle.seq_theory.specs.Rows.{IsRow, groups_of, IsSound, Event, IsAllowed, after, change_at}
use Rattle.seq_theory.specs.Rows.{Row as TheoryRow}
use Rattle.seq_theory.proofs.RowLaws.{same_group-true, events-sound, sound-bounds, wanted-within}
use Rattle.seq_theory.proofs.LeastLaws.{least, IsLeast-least, IsLeast-one}
use Rattle.seq_inst.specs.declared.instance.Instance.{Instance}
use Rattle.seq_inst.specs.declared.outcome.Row.{Row}
use Rattle.seq_inst.specs.Instances.{problem_of}
use Rattle.seq_inst.specs.Members.{members}
use Rattle.seq_core.specs.RowsOf.{row_of, rows_of}
use Rattle.seq_core.specs.Settled.{row_at}
use Rattle.seq_core.specs.Words.{classes_of}
use Rattle.seq_words.specs.Knowledge.{told_of, IsLow, IsUp}

-- an allowed event keeps the rows sound
pub event-sound : (inst : Instance) (limit : ℕ) (rows : List TheoryRow) (e : Event) → IsSound (problem_of inst) limit rows → IsAllowed (problem_of inst) limit rows e → IsSound (problem_of inst) limit (after rows e)
event-sound inst limit rows e s a = events-sound (problem_of inst) limit rows (e ∷ []) inst.stands.sized inst.stands.told s (a, tt)

pub row-got : (rows : List Row) (p : ℕ) → p < length rows → slice_get (rows_of rows) p ≡ Some (row_of (row_at rows p))
row-got [] p h = absurd (omega arith)
row-got (x ∷ rest) zero h = refl
row-got (x ∷ rest) (suc p) h = row-got rest p (omega arith)

pub row-among : (rows : List Row) (p : ℕ) → p < length rows → IsRow (row_of (row_at rows p)) (rows_of rows)
row-among [] p h = absurd (omega arith)
row-among (x ∷ rest) zero h = inl refl
row-among (x ∷ rest) (suc p) h = inr (row-among rest p (omega arith))

-- one row is another
pub row-set : (rows : List Row) (p : ℕ) (r : Row) (f : TheoryRow → TheoryRow) → p < length rows → row_of r ≡ f (row_of (row_at rows p)) → rows_of (set rows p r) ≡ change_at (rows_of rows) p f
row-set [] p r f h e = absurd (omega arith)
row-set (x ∷ rest) zero r f h e = ap (λ y. y ∷ rows_of rest) e
row-set (x ∷ rest) (suc p) r f h e = ap (λ l. row_of x ∷ l) (row-set rest p r f (omega arith) e)

pub rows-more : (rows : List Row) (r : Row) → rows_of (rows ++ r ∷ []) ≡ rows_of rows ++ row_of r ∷ []
rows-more rows r = map-append row_of rows (r ∷ [])

pub length-rows : (rows : List Row) → length (rows_of rows) ≡ length rows
length-rows [] = refl
length-rows (x ∷ rest) = ap suc (length-rows rest)

neither : (a b : Bool) → a ≡ false → b ≡ false → (a || b) ≡ false
neither true b e f = e
neither false b e f = f

-- no row has the group
pub not-entered : (rows : List Row) (g : List ℕ) → ((i : ℕ) → i < length rows → members (row_at rows i).group ≢ g) → is_entered (groups_of (rows_of rows)) g ≡ false
not-entered [] g apart = refl
not-entered (x ∷ rest) g apart = neither (same_group g (members x.group)) _
    (elim (cases_Bool (same_group g (members x.group))) [
      | inl y ↦ absurd (apart 0 (omega arith) (sym (same_group-true g (members x.group) y)))
      | inr n ↦ n
    ])
    (not-entered rest g (λ i h. apart (suc i) (omega arith)))

-- the bounds of a row of sound rows are right for its group
pub row-right : (inst : Instance) (limit : ℕ) (rows : List Row) (p : ℕ) (bits : List ℕ) → p < length rows → IsSound (problem_of inst) limit (rows_of rows) → (row_at rows p).group.0 ≡ bits
    → IsLow (told_of inst) bits (row_at rows p).low × IsUp (told_of inst) bits (row_at rows p).up
row-right inst limit rows p bits h s is =
    let q = problem_of inst in
    let r = row_of (row_at rows p) in
    let i = row-among rows p h in
    let b = sound-bounds q limit (rows_of rows) r inst.stands.weighed inst.stands.told s i in
    let within = wanted-within q r.group (s.real r i).wanted in
    let group : classes_of (row_at rows p).group.0 ≡ classes_of bits = ap classes_of is in
    let one : (n : ℕ) → IsLeast q (classes_of bits) n → least q r.group ≡ n =
    λ n l. IsLeast-one q r.group (least q r.group) n (IsLeast-least q r.group inst.stands.told within) (subst (λ g. IsLeast q g n) (sym group) l) in
    let b0 = b.0 in
    let b1 = b.1 in
    ((λ n l. let e = one n l in omega arith), (λ n l. let e = one n l in omega arith))

-- The rows of a list, by place, and a group that has none of them.
use Rattle.std.proofs.Common.{◌≡◌, ℕ, zero, suc, ◌<◌, List, [], ◌∷◌, length, refl, arith, inl, inr, Some, None}
use Rattle.std.specs.Prelude.{Bool, true, false, cond, slice_index_or}
use Rattle.seq_theory.specs.Graph.{same_group, is_entered}
use Rattle.seq_theory.specs.Rows.{Row as PlainRow, IsRow, groups_of, row_for}
use Rattle.seq_theory.proofs.RowLaws.{same_group-refl, or-left, or-right}
use Rattle.seq_inst.specs.declared.outcome.Row.{Row}
use Rattle.seq_inst.specs.Members.{members}
use Rattle.seq_core.specs.RowsOf.{row_of as row_from, rows_of as rows_from}
use Rattle.seq_core.specs.Settled.{groups_in}

pub row-none : (rows : List PlainRow) (group : List ℕ) → row_for rows group ≡ None → is_entered (groups_of rows) group ≡ false
row-none [] group e = refl
row-none (s ∷ rest) group e = go (same_group group s.group) refl e (row-none rest group)
  where
    go : (b : Bool) → same_group group s.group ≡ b → cond b (Some s) (row_for rest group) ≡ None → (row_for rest group ≡ None → is_entered (groups_of rest) group ≡ false) → is_entered (groups_of (s ∷ rest)) group ≡ false
    go true y e later = absurd (let bad : ⊥ = cc in bad)
    go false n e later = rw n (later e)

pub row-among : (rows : List Row) (k : ℕ) (d : Row) → k < length rows → IsRow (row_from (slice_index_or rows k d)) (rows_from rows)
row-among [] k d lt = absurd (let bad : ⊥ = omega arith in bad)
row-among (r ∷ rest) zero d lt = inl refl
row-among (r ∷ rest) (suc k) d lt = inr (row-among rest k d (omega arith))

pub row-entered : (rows : List Row) (k : ℕ) (d : Row) → k < length rows → is_entered (groups_in rows) (members (slice_index_or rows k d).group) ≡ true
row-entered [] k d lt = absurd (let bad : ⊥ = omega arith in bad)
row-entered (r ∷ rest) zero d lt = or-left _ _ (same_group-refl (members r.group))
row-entered (r ∷ rest) (suc k) d lt = or-right (same_group (members (slice_index_or rest k d).group) (members r.group)) _ (row-entered rest k d (omega arith))

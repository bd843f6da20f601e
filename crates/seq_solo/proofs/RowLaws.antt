-- Rows before and after: those that narrow are as many and keep their groups, and one that was entered is one more.
use Rattle.std.proofs.Common.{◌≡◌, ℕ, zero, suc, ◌<◌, List, [], ◌∷◌, ◌++◌, length, refl, sym, ap, ◌∙◌, arith, inl, inr, Option, Some, None, length-append}
use Rattle.std.specs.Prelude.{true, slice_index_or}
use Rattle.seq_theory.specs.Problem.{Problem}
use Rattle.seq_theory.specs.Graph.{same_group, is_entered}
use Rattle.seq_theory.specs.Rows.{IsRow}
use Rattle.seq_theory.proofs.RowLaws.{same_group-refl, or-left, or-right}
use Rattle.seq_inst.specs.declared.group.Group.{Group}
use Rattle.seq_inst.specs.declared.outcome.Row.{Row}
use Rattle.seq_inst.specs.Members.{members}
use Rattle.seq_core.specs.RowsOf.{row_of as row_from, rows_of as rows_from}
use Rattle.seq_core.specs.Settled.{groups_in}
use Rattle.seq_graph.specs.Known.{group_at, Narrows}
use Rattle.seq_graph.specs.Walks.{HasMoved, HasTurned}

pub length-Narrows : (a b : List Row) → Narrows a b → length b ≡ length a
length-Narrows [] [] h = refl
length-Narrows [] (s ∷ ss) h = absurd h
length-Narrows (r ∷ rs) [] h = absurd h
length-Narrows (r ∷ rs) (s ∷ ss) h = ap suc (length-Narrows rs ss h.3)

pub group-Narrows : (a b : List Row) (k : ℕ) → Narrows a b → k < length a → group_at b k ≡ group_at a k
group-Narrows [] b k h lt = absurd (let bad : ⊥ = omega arith in bad)
group-Narrows (r ∷ rs) [] k h lt = absurd h
group-Narrows (r ∷ rs) (s ∷ ss) zero h lt = h.0
group-Narrows (r ∷ rs) (s ∷ ss) (suc k) h lt = group-Narrows rs ss k h.3 (omega arith)

pub entered-long : (old new : List Row) (r : Row) → Narrows (old ++ r ∷ []) new → length old < length new
entered-long old new r n = let l = length-Narrows (old ++ r ∷ []) new n in let m = length-append old (r ∷ []) in omega arith

-- a turn that stopped at no group has moved
pub turned-none : (p : Problem) (limit : ℕ) (old new : List Row) (o : Option Group) → ((g : Group) → o ≡ Some g → ⊥) → HasTurned p limit old new o → HasMoved p limit old new
turned-none p limit old new None h t = t
turned-none p limit old new (Some g) h t = absurd (h g refl)

pub row-among : (rows : List Row) (k : ℕ) (d : Row) → k < length rows → IsRow (row_from (slice_index_or rows k d)) (rows_from rows)
row-among [] k d lt = absurd (let bad : ⊥ = omega arith in bad)
row-among (r ∷ rest) zero d lt = inl refl
row-among (r ∷ rest) (suc k) d lt = inr (row-among rest k d (omega arith))

pub row-entered : (rows : List Row) (k : ℕ) (d : Row) → k < length rows → is_entered (groups_in rows) (members (slice_index_or rows k d).group) ≡ true
row-entered [] k d lt = absurd (let bad : ⊥ = omega arith in bad)
row-entered (r ∷ rest) zero d lt = or-left _ _ (same_group-refl (members r.group))
row-entered (r ∷ rest) (suc k) d lt = or-right (same_group (members (slice_index_or rest k d).group) (members r.group)) _ (row-entered rest k d (omega arith))

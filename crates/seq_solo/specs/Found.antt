-- What a search ends with.
use Rattle.std.specs.Prelude.{◌≡◌, ◌≢◌, ℕ, ◌≤◌, true, false, List, [], length, Option, Some, None}
use Rattle.seq_theory.specs.Problem.{Problem, all_classes, is_end}
use Rattle.seq_theory.specs.Graph.{is_entered, low, val, IsReal}
use Rattle.seq_theory.specs.Rows.{groups_of}
use Rattle.seq_inst.specs.declared.group.Group.{Group}
use Rattle.seq_inst.specs.declared.outcome.Row.{Row}
use Rattle.seq_inst.specs.Members.{members}
use Rattle.seq_core.specs.RowsOf.{rows_of as rows_from}
use Rattle.seq_graph.specs.Known.{row_at, group_at, IsClosedAt}

-- the first row is that of the group of all classes, unless all classes have one goal; then there is no row
pub record BeginsWithAll (p : Problem) (rows : List Row) : Type 0 where
  pub some : is_end p (all_classes p) ≡ false → 1 ≤ length rows
  pub first : is_end p (all_classes p) ≡ false → members (group_at rows 0) ≡ all_classes p
  pub none : is_end p (all_classes p) ≡ true → rows ≡ []

-- low and up of the group of all classes are equal, if it has a row, and so the entered groups show the least cost
pub record IsSolved (p : Problem) (rows : List Row) : Type 0 where
  pub closed : is_end p (all_classes p) ≡ false → IsClosedAt rows 0
  pub enough : val p (groups_of (rows_from rows)) (all_classes p) ≡ Some (low p (groups_of (rows_from rows)) (all_classes p))

-- as many groups were entered as the limit allows, the group of all classes is open, and a real group has no row
pub record StoppedAtLimit (p : Problem) (limit : ℕ) (rows : List Row) (missed : Group) : Type 0 where
  pub many : length rows ≡ limit
  pub apart : (row_at rows 0).low ≢ (row_at rows 0).up
  pub real : IsReal p (members missed)
  pub absent : is_entered (groups_of (rows_from rows)) (members missed) ≡ false

-- nothing is missed exactly where the search is solved
abbrev pub HasEnded : Problem → ℕ → List Row → Option Group → Type 0
HasEnded p limit rows None = IsSolved p rows
HasEnded p limit rows (Some missed) = StoppedAtLimit p limit rows missed

-- What is proved of rows and of the groups that were entered, for engines that change the rows without asking the core.
use Rattle.std.specs.Prelude.{◌≡◌, ℕ, ◌+◌, ◌<◌, ◌≤◌, true, false, List, length, Some, slice_get, slice_index, slice_set}
use Rattle.seq_theory.specs.Problem.{Problem, IsSized, AreTold}
use Rattle.seq_theory.specs.Graph.{is_entered, low, val, IsReal}
use Rattle.seq_theory.specs.Rows.{groups_of, IsSound, enter, raise, cap, after}
use Rattle.seq_theory.specs.Rows.{Row as TheoryRow}
use Rattle.seq_inst.specs.declared.instance.Instance.{Instance}
use Rattle.seq_inst.specs.declared.outcome.Row.{Row}
use Rattle.seq_inst.specs.Instances.{problem_of}
use Rattle.seq_core.specs.RowsOf.{rows_of}
use Rattle.seq_core.specs.Settled.{AreGroups, groups_in, row_at, size_at, settled_row, settled_rows, AreSettledBelow, IsTurnOf, AreSettling, IsAmongFirst, IsBySize}

-- a group that is real and was not entered is entered where there is room
abbrev pub EntersKeep : Type 0
EntersKeep = (p : Problem) (limit : ℕ) (rows : List TheoryRow) (group : List ℕ) → IsSized p → AreTold p → IsSound p limit rows
    → IsReal p group → is_entered (groups_of rows) group ≡ false → length rows < limit → IsSound p limit (after rows (enter group))

-- a row is raised to at most the low of its group
abbrev pub RaisesKeep : Type 0
RaisesKeep = (p : Problem) (limit : ℕ) (rows : List TheoryRow) (place to : ℕ) (r : TheoryRow) → IsSound p limit rows
    → slice_get rows place ≡ Some r → to ≤ low p (groups_of rows) r.group → IsSound p limit (after rows (raise place to))

-- a row is capped to at least the value of its group
abbrev pub CapsKeep : Type 0
CapsKeep = (p : Problem) (limit : ℕ) (rows : List TheoryRow) (place to : ℕ) (r : TheoryRow) → IsSound p limit rows
    → slice_get rows place ≡ Some r → ((v : ℕ) → val p (groups_of rows) r.group ≡ Some v → v ≤ to) → IsSound p limit (after rows (cap place to))

-- the second list has each group of the first
abbrev pub HasAll : List (List ℕ) → List (List ℕ) → Type 0
HasAll old new = (g : List ℕ) → is_entered old g ≡ true → is_entered new g ≡ true

-- the low of a group grows as groups are entered
abbrev pub LowGrows : Type 0
LowGrows = (p : Problem) (old new : List (List ℕ)) (group : List ℕ) → HasAll old new → low p old group ≤ low p new group

-- its value falls
abbrev pub ValFalls : Type 0
ValFalls = (p : Problem) (old new : List (List ℕ)) (group : List ℕ) (v : ℕ) → HasAll old new → val p old group ≡ Some v
    → (u : ℕ) × (val p new group ≡ Some u) × (u ≤ v)

-- the groups of sound rows are such as `settle`, `lows` and `vals` take
abbrev pub SoundAreGroups : Type 0
SoundAreGroups = (p : Problem) (limit : ℕ) (rows : List Row) → IsSound p limit (rows_of rows) → AreGroups p rows

-- where the rows of all smaller groups are settled, the turn of a row gives it its low and its value
abbrev pub TurnsSettle : Type 0
TurnsSettle = (inst : Instance) (limit : ℕ) (rows : List Row) (place : ℕ) → IsSound (problem_of inst) limit (rows_of rows)
    → place < length rows → AreSettledBelow (problem_of inst) rows (size_at rows place) → IsTurnOf (problem_of inst) rows place

-- before the first turn sound rows are on the way
abbrev pub TurnsStart : Type 0
TurnsStart = (inst : Instance) (limit : ℕ) (rows : List Row) (order : List ℕ) → IsSound (problem_of inst) limit (rows_of rows)
    → AreSettling (problem_of inst) rows rows (IsAmongFirst order 0)

-- in an order by size the rows of all groups that are smaller than the one whose turn it is are settled, and they are on the way
-- with one row more once it has settled, too
abbrev pub TurnsGoOn : Type 0
TurnsGoOn = (p : Problem) (rows now : List Row) (order : List ℕ) (n : ℕ) → IsBySize rows order → n < length order
    → AreSettling p rows now (IsAmongFirst order n)
    → AreSettledBelow p now (size_at now (slice_index order n))
    × AreSettling p rows (slice_set now (slice_index order n) (settled_row p (groups_in now) (row_at now (slice_index order n)))) (IsAmongFirst order (n + 1))

-- after the last turn each has the low and the value that the rows' groups give it
abbrev pub TurnsEnd : Type 0
TurnsEnd = (p : Problem) (rows now : List Row) (order : List ℕ) → IsBySize rows order
    → AreSettling p rows now (IsAmongFirst order (length order)) → now ≡ settled_rows p rows

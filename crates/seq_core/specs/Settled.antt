-- Rows that have the low and the value that the entered groups give them.
use Rattle.std.specs.Prelude.{◌≡◌, ℕ, ◌<◌, ◌≤◌, max, min, false, List, length, map, slice_index, slice_index_or, Option, Some, None}
use Rattle.seq_theory.specs.Problem.{Problem, IsWithin, is_end}
use Rattle.seq_theory.specs.Graph.{low, val}
use Rattle.seq_theory.specs.Rows.{no_value, groups_of, AreDistinct, IsRow, known_low, known_up, most_low, least_up}
use Rattle.seq_theory.specs.Rows.{Row as TheoryRow}
use Rattle.seq_inst.specs.declared.outcome.Row.{Row}
use Rattle.seq_inst.specs.Members.{members}
use Rattle.seq_inst.specs.Valid.{no_class}
use Rattle.seq_huff.specs.Orders.{IsUpwardBy}
use Rattle.seq_core.specs.RowsOf.{rows_of, AreFit}

-- the groups of the rows
abbrev pub groups_in : List Row → List (List ℕ)
groups_in rows = groups_of (rows_of rows)

-- a value, or the greatest word where there is none
abbrev pub value_or : Option ℕ → ℕ
value_or None = no_value
value_or (Some v) = v

-- the groups of the rows are distinct, within the classes, and have two goals or more
pub record AreGroups (p : Problem) (rows : List Row) : Type 0 where
  pub distinct : AreDistinct (groups_in rows)
  pub within : (r : TheoryRow) → IsRow r (rows_of rows) → IsWithin p r.group
  pub goals : (r : TheoryRow) → IsRow r (rows_of rows) → is_end p r.group ≡ false

-- the row of a group with the low and the value that a set of entered groups gives it
abbrev pub settled_row : Problem → List (List ℕ) → Row → Row
settled_row p entered r = record { group = r.group; low = low p entered (members r.group); up = value_or (val p entered (members r.group)) }

abbrev pub settled_rows : Problem → List Row → List Row
settled_rows p rows = map (settled_row p (groups_in rows)) rows

abbrev pub first_row : Row
first_row = record { group = no_class; low = 0; up = 0 }

abbrev pub row_at : List Row → ℕ → Row
row_at rows k = slice_index_or rows k first_row

-- how many classes the group of a row has
abbrev pub size_at : List Row → ℕ → ℕ
size_at rows k = length (members (row_at rows k).group)

-- the sizes of the rows' groups
abbrev pub sizes_of : List Row → List ℕ
sizes_of rows = map (λ r. length (members r.group)) rows

-- the row of the place has the low and the value that the rows' groups give it
abbrev pub IsSettledAt : Problem → List Row → ℕ → Type 0
IsSettledAt p rows place = row_at rows place ≡ settled_row p (groups_in rows) (row_at rows place)

-- the rows of all groups of fewer classes have theirs
abbrev pub AreSettledBelow : Problem → List Row → ℕ → Type 0
AreSettledBelow p rows size = (k : ℕ) → k < length rows → size_at rows k < size → IsSettledAt p rows k

-- what the rows say of the group at the place where those of all smaller groups are settled: a smaller group counts its low and its
-- value; so the row gets its low and its value where it is raised to the most, and capped to the least, that the rows allow
pub record IsTurnOf (p : Problem) (rows : List Row) (place : ℕ) : Type 0 where
  pub lows : (part : List ℕ) → length part < size_at rows place → known_low p (rows_of rows) part ≡ low p (groups_in rows) part
  pub ups : (part : List ℕ) → length part < size_at rows place → known_up p (rows_of rows) part ≡ val p (groups_in rows) part
  pub raised : max (row_at rows place).low (most_low p (rows_of rows) (members (row_at rows place).group)) ≡ low p (groups_in rows) (members (row_at rows place).group)
  pub capped : min (row_at rows place).up (least_up p (rows_of rows) (members (row_at rows place).group)) ≡ value_or (val p (groups_in rows) (members (row_at rows place).group))
  pub value : val p (groups_in rows) (members (row_at rows place).group) ≡ Some (least_up p (rows_of rows) (members (row_at rows place).group))

-- a row that may become the settled one: of the same group, with a low that is at most the group's low and an up that is at least
-- its value. A row of which nothing is known is such a row, each row of a sound list is, and the settled row is
pub record MaySettle (p : Problem) (entered : List (List ℕ)) (row now : Row) : Type 0 where
  pub group : now.group ≡ row.group
  pub below : now.low ≤ low p entered (members row.group)
  pub above : value_or (val p entered (members row.group)) ≤ now.up

-- rows of the groups of others, on the way to their lows and values: each may settle, and those that are done have settled
pub record AreSettling (p : Problem) (rows now : List Row) (isDone : ℕ → Type 0) : Type 0 where
  pub groups : AreGroups p rows
  pub many : length now ≡ length rows
  pub each : (k : ℕ) → k < length rows → MaySettle p (groups_in rows) (row_at rows k) (row_at now k)
  pub done : (k : ℕ) → k < length rows → isDone k → row_at now k ≡ settled_row p (groups_in rows) (row_at rows k)

-- the rows of fewer classes are done
abbrev pub AreDoneBelow : List Row → (ℕ → Type 0) → ℕ → Type 0
AreDoneBelow rows isDone size = (j : ℕ) → j < length rows → size_at rows j < size → isDone j

-- the place is one of the first so many of an order
abbrev pub IsAmongFirst : List ℕ → ℕ → ℕ → Type 0
IsAmongFirst order n place = (s : ℕ) × (s < n) × (slice_index order s ≡ place)

-- the places of the rows, by the sizes of their groups upwards
abbrev pub IsBySize : List Row → List ℕ → Type 0
IsBySize rows order = IsUpwardBy (length rows) (λ k. slice_index (sizes_of rows) k) order

-- rows on the way that fit, of which those at the first so many places of an order are settled
pub record IsSettledTo (p : Problem) (rows now : List Row) (order : List ℕ) (n : ℕ) : Type 0 where
  pub fit : AreFit p (rows_of now)
  pub settling : AreSettling p rows now (IsAmongFirst order n)

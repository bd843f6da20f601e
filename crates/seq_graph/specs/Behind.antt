-- Where rows stand among others: the place of a group, and rows that are behind others, as those of one worker are behind the
-- rows of all.
use Rattle.std.specs.Prelude.{◌≡◌, ℕ, ◌<◌, ◌≤◌, All, List, length}
use Rattle.seq_inst.specs.declared.outcome.Row.{Row}
use Rattle.seq_inst.specs.Members.{members}
use Rattle.seq_graph.specs.Known.{row_at, group_at}

-- the row of this place has the group
pub record IsPlaceOf (rows : List Row) (group : List ℕ) (place : ℕ) : Type 0 where
  pub there : place < length rows
  pub same : members (group_at rows place) ≡ group

-- the row's group is one of the rows', and its bounds there are no worse
pub record IsBehind (rows : List Row) (r : Row) : Type 0 where
  pub place : ℕ
  pub of : IsPlaceOf rows (members r.group) place
  pub low : r.low ≤ (row_at rows place).low
  pub up : (row_at rows place).up ≤ r.up

-- so it is with each of these
abbrev pub AreBehind : (rows others : List Row) → Type 0
AreBehind rows others = All (IsBehind rows) others

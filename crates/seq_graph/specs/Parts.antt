-- What is known of a part of a group.
use Rattle.std.specs.Prelude.{◌≡◌, ◌≢◌, ℕ, ◌<◌, false, List, length, Some, None}
use Rattle.seq_theory.specs.Problem.{Problem, is_end}
use Rattle.seq_theory.specs.Rows.{row_for, known_low, known_up}
use Rattle.seq_inst.specs.declared.outcome.Row.{Row}
use Rattle.seq_inst.specs.Members.{members}
use Rattle.seq_core.specs.RowsOf.{rows_of as rows_from}
use Rattle.seq_graph.specs.declared.steps.Knowledge.{Knowledge}
use Rattle.seq_graph.specs.declared.steps.Knowledge.TheVariants.{Unknown, Open, Closed}
use Rattle.seq_graph.specs.Known.{row_at, group_at}

-- the part has two goals or more, and no row
pub record IsUnknown (p : Problem) (rows : List Row) (part : List ℕ) : Type 0 where
  pub goals : is_end p part ≡ false
  pub absent : row_for (rows_from rows) part ≡ None

-- its row has this place, and its low and up differ
pub record IsOpenAt (rows : List Row) (part : List ℕ) (place : ℕ) : Type 0 where
  pub there : place < length rows
  pub same : members (group_at rows place) ≡ part
  pub apart : (row_at rows place).low ≢ (row_at rows place).up

-- what it counts for a low and for an up is the same; else it is unknown, or open
abbrev pub IsKnowledge : Problem → List Row → List ℕ → Knowledge → Type 0
IsKnowledge p rows part Unknown = IsUnknown p rows part
IsKnowledge p rows part (Open place) = IsOpenAt rows part place
IsKnowledge p rows part Closed = known_up p (rows_from rows) part ≡ Some (known_low p (rows_from rows) part)

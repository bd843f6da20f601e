-- What the rows allow at a place.
use Rattle.std.specs.Prelude.{◌≡◌, ℕ, max, min, List, Some, slice_get}
use Rattle.seq_theory.specs.Problem.{Problem}
use Rattle.seq_theory.specs.Rows.{Row as TheoryRow, most_low, least_up}
use Rattle.seq_inst.specs.declared.outcome.Row.{Row}
use Rattle.seq_inst.specs.Members.{members}
use Rattle.seq_core.specs.RowsOf.{rows_of}
use Rattle.seq_core.specs.Changes.{change_row}

-- the most to which the row at the place may be raised
abbrev pub IsMostLow : Problem → List Row → ℕ → ℕ → Type 0
IsMostLow p rows place n = (r : TheoryRow) → slice_get (rows_of rows) place ≡ Some r → n ≡ most_low p (rows_of rows) r.group

-- the least to which the row at the place may be capped
abbrev pub IsLeastUp : Problem → List Row → ℕ → ℕ → Type 0
IsLeastUp p rows place n = (r : TheoryRow) → slice_get (rows_of rows) place ≡ Some r → n ≡ least_up p (rows_of rows) r.group

-- a row raised to the most and capped to the least that these rows allow
abbrev pub tight_row : Problem → List Row → Row → Row
tight_row p rows r = record { group = r.group; low = max r.low (most_low p (rows_of rows) (members r.group)); up = min r.up (least_up p (rows_of rows) (members r.group)) }

-- the rows with the one at the place so
abbrev pub tightened : Problem → List Row → ℕ → List Row
tightened p rows place = change_row rows place (tight_row p rows)

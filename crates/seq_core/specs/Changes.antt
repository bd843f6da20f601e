-- Changes of rows.
use Rattle.std.specs.Prelude.{ℕ, max, min, List, [], ◌∷◌}
use Rattle.std.proofs.Common.{zero, suc}
use Rattle.seq_theory.specs.Rows.{no_value}
use Rattle.seq_inst.specs.declared.group.Group.{Group}
use Rattle.seq_inst.specs.declared.outcome.Row.{Row}

-- the rows with the one at a place changed
abbrev pub change_row : List Row → ℕ → (Row → Row) → List Row
change_row [] place f = []
change_row (r ∷ rest) zero f = f r ∷ rest
change_row (r ∷ rest) (suc place) f = r ∷ change_row rest place f

-- a row of which nothing is known yet
abbrev pub new_row : Group → Row
new_row group = record { group = group; low = 0; up = no_value }

-- the larger of the low and a number, and the lesser of the up and a number
abbrev pub raised : ℕ → Row → Row
raised to r = record { group = r.group; low = max r.low to; up = r.up }

abbrev pub capped : ℕ → Row → Row
capped to r = record { group = r.group; low = r.low; up = min r.up to }

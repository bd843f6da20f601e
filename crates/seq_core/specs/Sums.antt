-- Sums over a group's tests; those of ups a word may be too small for.
use Rattle.std.specs.Prelude.{ℕ, min, List, Option, Some, None}
use Rattle.seq_theory.specs.Problem.{Problem}
use Rattle.seq_theory.specs.Bound.{step_sum}
use Rattle.seq_theory.specs.Graph.{step_value}
use Rattle.seq_theory.specs.Rows.{no_value, known_low, known_up}
use Rattle.seq_inst.specs.declared.outcome.Row.{Row}
use Rattle.seq_core.specs.RowsOf.{rows_of}

-- the sum of a test over a group and what the parts count for a low
abbrev pub low_sum : Problem → List Row → List ℕ → ℕ → ℕ
low_sum p rows group = step_sum p (known_low p (rows_of rows)) group

-- and what they count for an up, where both have one
abbrev pub up_sum : Problem → List Row → List ℕ → ℕ → Option ℕ
up_sum p rows group = step_value p (known_up p (rows_of rows)) group

-- the lesser of an earlier number, if there is one, and a new one
abbrev pub lesser : Option ℕ → ℕ → ℕ
lesser None n = n
lesser (Some m) n = min m n

-- a sum that stops at the greatest word
abbrev pub capped_value : Option ℕ → Option ℕ
capped_value None = None
capped_value (Some n) = Some (min n no_value)

-- The rows of the code, as the theory's rows.
use Rattle.std.specs.Prelude.{◌≡◌, ℕ, cond, false, ◌≤◌, List, [], ◌∷◌, map, Option, Some, None}
use Rattle.std.specs.Option.{option_map}
use Rattle.std.proofs.Common.{suc}
use Rattle.seq_theory.specs.Problem.{Problem, IsWithin, is_end}
use Rattle.seq_theory.specs.Graph.{same_group}
use Rattle.seq_theory.specs.Rows.{Row as TheoryRow, IsRow}
use Rattle.seq_inst.specs.declared.outcome.Row.{Row}
use Rattle.seq_inst.specs.Members.{members}
use Rattle.seq_huff.specs.Bounds.{greatest_cost}

abbrev pub row_of : Row → TheoryRow
row_of r = record { group = members r.group; low = r.low; up = r.up }

abbrev pub rows_of : List Row → List TheoryRow
rows_of rows = map row_of rows

-- the place of the row of a group, if it has one
abbrev pub place_of_group : List TheoryRow → List ℕ → Option ℕ
place_of_group [] group = None
place_of_group (r ∷ rest) group = cond (same_group group r.group) (Some 0) (option_map suc (place_of_group rest group))

-- a row of two goals or more within the classes, with a low that a sum has room for
pub record IsFit (p : Problem) (r : TheoryRow) : Type 0 where
  pub within : IsWithin p r.group
  pub goals : is_end p r.group ≡ false
  pub small : r.low ≤ greatest_cost

abbrev pub AreFit : Problem → List TheoryRow → Type 0
AreFit p rows = (r : TheoryRow) → IsRow r rows → IsFit p r

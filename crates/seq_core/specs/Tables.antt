-- The entered groups by their rows.
use Rattle.std.specs.Prelude.{ℕ, List, [], ◌∷◌}
use Rattle.std.proofs.Common.{suc}
use Rattle.seq_inst.specs.declared.outcome.Row.{Row}
use Rattle.seq_inst.specs.Members.{members}
use Rattle.seq_core.specs.Mapping.{Placed}

-- so many groups may be entered; the rows of those that were, in the order of entering
pub record Table : Type 0 where
  pub room : ℕ
  pub rows : List Row

-- each row's group with its place, from a first place on
abbrev pub placed_groups : ℕ → List Row → List Placed
placed_groups n [] = []
placed_groups n (r ∷ rest) = record { group = members r.group; place = n } ∷ placed_groups (suc n) rest

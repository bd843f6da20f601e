-- A map from groups to places.
use Rattle.std.specs.Prelude.{ℕ, cond, List, [], ◌∷◌, map, Option, Some, None}
use Rattle.seq_theory.specs.Graph.{same_group}
use Rattle.seq_core.specs.Words.{classes_of}

-- a group, as the list of its classes, with its place
pub record Placed : Type 0 where
  pub group : List ℕ
  pub place : ℕ

-- a map with room for so many groups; the groups that it has with their places, in the order of adding
pub record Mapping : Type 0 where
  pub room : ℕ
  pub placed : List Placed

-- the place of a group, if it has one
abbrev pub place_of : List Placed → List ℕ → Option ℕ
place_of [] group = None
place_of (x ∷ rest) group = cond (same_group group x.group) (Some x.place) (place_of rest group)

-- places by the words of their groups, as the map shows them
abbrev pub placed_from : List (List ℕ × ℕ) → List Placed
placed_from entries = map (λ e. record { group = classes_of e.0; place = e.1 }) entries

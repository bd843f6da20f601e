-- The nodes on a loop.
use Rattle.std.specs.Prelude.{ℕ, ◌<◌, ◌↔◌, List, length, Option, Some, None}
use Rattle.std.specs.List.{Contains}
use Rattle.std.specs.List.Sorted.{IsStrictlyIncreasing}
use Rattle.sig_flat.specs.declared.flat.Flat.{Flat}
use Rattle.sig_reach.specs.Paths.{HasFreePath}

-- in one of the first so many modes a free path leads from the node to itself
abbrev pub IsLoopedBelow : Flat → ℕ → ℕ → Type 0
IsLoopedBelow flat modes node = (mode : ℕ) × (mode < modes) × HasFreePath flat mode node node

-- a free path leads from the node to itself in the mode, or in some mode where none is named
abbrev pub IsLooped : Flat → Option ℕ → ℕ → Type 0
IsLooped flat None node = IsLoopedBelow flat (length flat.modes) node
IsLooped flat (Some mode) node = HasFreePath flat mode node node

-- the list has the nodes on a loop, upwards
pub record AreLooped (flat : Flat) (mode : Option ℕ) (nodes : List ℕ) : Type 0 where
  pub upwards : IsStrictlyIncreasing nodes
  pub there : (node : ℕ) → Contains nodes node → node < length flat.nodes
  pub looped : (node : ℕ) → node < length flat.nodes → Contains nodes node ↔ IsLooped flat mode node

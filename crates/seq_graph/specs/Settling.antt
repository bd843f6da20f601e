-- What the tests of a group give for an up: the evaluated ones, and all of them.
use Rattle.std.specs.Prelude.{◌≡◌, ◌⊎◌, ℕ, ◌<◌, ◌≤◌, min, Some, Bool, true, List, ◌∷◌, map}
use Rattle.std.specs.List.{filter_map}
use Rattle.seq_theory.specs.Problem.{Problem, least_of, splits, splitting}
use Rattle.seq_theory.specs.Graph.{step_value}
use Rattle.seq_theory.specs.Greedy.{greedy_cost}
use Rattle.seq_theory.specs.Rows.{no_value, known_up, least_up}
use Rattle.seq_inst.specs.declared.outcome.Row.{Row}
use Rattle.seq_inst.specs.Members.{members}
use Rattle.seq_graph.specs.declared.node.Node.{Node}
use Rattle.seq_core.specs.RowsOf.{rows_of as rows_from}
use Rattle.seq_graph.specs.Known.{row_at, group_at, splits_at, most_at}

-- the least of what these tests of a group give over ups, if any gives a value
abbrev pub up_by : Problem → List Row → List ℕ → (tests : List ℕ) → ℕ
up_by p rows group tests = least_of (no_value ∷ filter_map (step_value p (known_up p (rows_from rows)) group) tests)

-- the least of what the evaluated tests of the place give
abbrev pub evaluated_up : Problem → List Row → List Node → ℕ → ℕ
evaluated_up p rows kept place = up_by p rows (members (group_at rows place)) (map (λ s. s.test) (splits_at kept place))

-- the least of what all tests give that split the group of the place
abbrev pub IsLeastUp : Problem → List Row → ℕ → ℕ → Type 0
IsLeastUp p rows place up = up ≡ up_by p rows (members (group_at rows place)) (splitting p (members (group_at rows place)))

-- the rows allow this cap, and it or the row's up is no more than what greedy costs
pub record IsGreedyCap (p : Problem) (rows : List Row) (place cap : ℕ) : Type 0 where
  pub allowed : least_up p (rows_from rows) (members (group_at rows place)) ≤ cap
  pub caps : min (row_at rows place).up cap ≤ greedy_cost p (members (group_at rows place))

-- all tests of the place that may give less than the row's up are listed, and of those that wait each was looked at
pub record AreLookedAt (rows : List Row) (kept : List Node) (place : ℕ) (looked : Bool) : Type 0 where
  pub looked_at : looked ≡ true
  pub listed : (row_at rows place).up ≤ most_at kept place

-- the up stays where all tests were looked at; else it is the least of what all tests give
abbrev pub IsSettledUp : Problem → List Row → List Node → ℕ → Bool → (before up : ℕ) → Type 0
IsSettledUp p rows kept place looked before up = ((up ≡ before) × AreLookedAt rows kept place looked) ⊎ IsLeastUp p rows place up

-- the least so far of what the splitting tests below a number give
pub record UpBelow (p : Problem) (rows : List Row) (place k least : ℕ) : Type 0 where
  pub no_less : up_by p rows (members (group_at rows place)) (splitting p (members (group_at rows place))) ≤ least
  pub word : least ≤ no_value
  pub each : (t n : ℕ) → t < k → splits p (members (group_at rows place)) t ≡ true → step_value p (known_up p (rows_from rows)) (members (group_at rows place)) t ≡ Some n → least ≤ n

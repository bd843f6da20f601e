-- What an engine knows: rows with bounds on the least costs of their groups, what is kept of each row's group, and what each group with
-- a number counts.
use Rattle.std.specs.Prelude.{◌≡◌, ℕ, ◌≤◌, true, max, min, All, List, [], ◌∷◌, length, map, Option, Some, None, slice_get, slice_set, slice_index_or}
use Rattle.seq_theory.specs.Problem.{Problem, weight_of}
use Rattle.seq_theory.specs.Tree.{IsLeast}
use Rattle.seq_theory.specs.Bound.{bound, step_sum}
use Rattle.seq_theory.specs.Graph.{IsReal}
use Rattle.seq_theory.specs.Greedy.{greedy_cost}
use Rattle.seq_theory.specs.Rows.{Row as TheoryRow, known_low, known_up, most_low, least_up, AreDistinct, IsSound}
use Rattle.seq_huff.specs.Bounds.{greatest_cost}
use Rattle.seq_inst.specs.declared.group.Group.{Group}
use Rattle.seq_inst.specs.declared.outcome.Row.{Row}
use Rattle.seq_inst.specs.Members.{members}
use Rattle.seq_inst.specs.Valid.{no_class}
use Rattle.seq_graph.specs.declared.node.Node.{Node}
use Rattle.seq_graph.specs.declared.node.Split.{Split}
use Rattle.seq_graph.specs.declared.node.Waiting.{Waiting}
use Rattle.seq_graph.specs.KeptOf.{AreTestsOf}
use Rattle.seq_graph.specs.Numbered.{Numbered, HasNumber, AreNumbers}
use Rattle.seq_core.specs.RowsOf.{row_of as row_from, rows_of as rows_from, place_of_group}
use Rattle.seq_core.specs.Settled.{groups_in, value_or}
use Rattle.seq_graph.specs.declared.graph.Count.{Count}
use Rattle.seq_graph.specs.declared.graph.Graph.{Graph}
use Rattle.seq_graph.specs.Counts.{count_at}
use Rattle.seq_inst.specs.declared.instance.Instance.{Instance}
use Rattle.seq_inst.specs.Instances.{problem_of}

-- the least cost of the group is at least the low and at most the up
abbrev pub AreBounds : Problem → List ℕ → ℕ → ℕ → Type 0
AreBounds p group low up = (n : ℕ) → IsLeast p group n → (low ≤ n) × (n ≤ up)

-- a real group with bounds on its least cost; the up is of a size that sums of three fit a word
pub record IsBounded (p : Problem) (r : TheoryRow) : Type 0 where
  pub real : IsReal p r.group
  pub bounds : AreBounds p r.group r.low r.up
  pub small : r.up ≤ greatest_cost

-- distinct real groups, each with bounds on its least cost; these may come from elsewhere, as from another worker
pub record AreRows (p : Problem) (rows : List Row) : Type 0 where
  pub distinct : AreDistinct (groups_in rows)
  pub each : All (λ (r : Row). IsBounded p (row_from r)) rows

-- no row's bounds are better than what the rows' groups give together
abbrev pub AreSound : Problem → List Row → Type 0
AreSound p rows = IsSound p (length rows) (rows_from rows)

-- the rows allow that the group is raised to the low, and capped to the up
pub record Allow (p : Problem) (rows : List Row) (group : List ℕ) (low up : ℕ) : Type 0 where
  pub low_allowed : low ≤ most_low p (rows_from rows) group
  pub up_allowed : least_up p (rows_from rows) group ≤ up

abbrev pub no_row : Row
no_row = record { group = no_class; low = 0; up = 0 }

abbrev pub row_at : List Row → ℕ → Row
row_at rows place = slice_index_or rows place no_row

-- the group of a place
abbrev pub group_at : List Row → ℕ → Group
group_at rows place = (row_at rows place).group

-- what is kept of a row's group, with a flag that says that greedy costs no less than the row's up. Of the tests that split it each is evaluated, or waits with a number that is at most its sum, or
-- is left out since its sum is above the row's up: lows rise and ups fall, so such a test is never again the one of least sum,
-- and gives no lower up. Or it found no room in the lists: then its sum is above the most up to which the tests are listed
pub record IsKeptBy (p : Problem) (v : Numbered) (rows : List Row) (r : Row) (k : Node) : Type 0 where
  pub number : HasNumber v (members r.group) k.number
  pub weight : k.weight ≡ weight_of p (members r.group)
  pub bound_is : k.bound ≡ bound p (members r.group)
  pub capped : k.capped ≡ true → r.up ≤ greedy_cost p (members r.group)
  pub tests : AreTestsOf p v (members r.group) (step_sum p (known_low p (rows_from rows)) (members r.group)) (min r.up k.most) k.splits.items k.waiting.items

-- the evaluated tests of the group of a place, and those that wait
abbrev pub splits_in : Option Node → List Split
splits_in None = []
splits_in (Some k) = k.splits.items

abbrev pub splits_at : List Node → ℕ → List Split
splits_at kept place = splits_in (slice_get kept place)

-- all tests of the place of which the sum is at most this are listed, but for those above the row's up
abbrev pub most_in : Option Node → ℕ
most_in None = 0
most_in (Some k) = k.most

abbrev pub most_at : List Node → ℕ → ℕ
most_at kept place = most_in (slice_get kept place)

abbrev pub waiting_in : Option Node → List Waiting
waiting_in None = []
waiting_in (Some k) = k.waiting.items

abbrev pub waiting_at : List Node → ℕ → List Waiting
waiting_at kept place = waiting_in (slice_get kept place)

-- what is kept is that of the rows, one by one
pub record AreKept (p : Problem) (v : Numbered) (rows : List Row) (kept : List Node) : Type 0 where
  pub as_many : length kept ≡ length rows
  pub each : (place : ℕ) (k : Node) → slice_get kept place ≡ Some k → IsKeptBy p v rows (row_at rows place) k

-- what a group counts for a low and for an up, and the place of its row
abbrev pub count_of : Problem → List Row → List ℕ → Count
count_of p rows group = record { low = known_low p (rows_from rows) group; up = value_or (known_up p (rows_from rows) group); place = place_of_group (rows_from rows) group }

-- the rows have bounds, the numbers and what is kept are right, and beside each number stands what its group counts
pub record AreKnown (p : Problem) (v : Numbered) (rows : List Row) (kept : List Node) (counts : List Count) : Type 0 where
  pub rows_are : AreRows p rows
  pub numbers_are : AreNumbers p v
  pub kept_are : AreKept p v rows kept
  pub counts_are : counts ≡ map (count_of p rows) v.groups

abbrev pub IsKnown : Problem → Graph → Type 0
IsKnown p s = AreKnown p s.numbers s.rows.items s.nodes.items s.counts.items

-- the row raised to a low and capped to an up
abbrev pub heard : ℕ → ℕ → Row → Row
heard low up r = record { group = r.group; low = max r.low low; up = min r.up up }

-- the rows with one row's low raised, or its up lowered
abbrev pub raised_at : List Row → ℕ → ℕ → List Row
raised_at rows place to = slice_set rows place (record (row_at rows place) { low = max (row_at rows place).low to })

abbrev pub capped_at : List Row → ℕ → ℕ → List Row
capped_at rows place to = slice_set rows place (record (row_at rows place) { up = min (row_at rows place).up to })

-- the counts with that of one number raised and capped
abbrev pub narrowed_at : List Count → ℕ → ℕ → ℕ → List Count
narrowed_at counts number low up = slice_set counts number (record (count_at counts number) { low = max (count_at counts number).low low; up = min (count_at counts number).up up })

-- each row has its group still, with a low and an up that are no farther apart
abbrev pub Narrows : List Row → List Row → Type 0
Narrows [] [] = Unit {0}
Narrows [] (s ∷ ss) = ⊥
Narrows (r ∷ rs) [] = ⊥
Narrows (r ∷ rs) (s ∷ ss) = (s.group ≡ r.group) × (r.low ≤ s.low) × (s.up ≤ r.up) × Narrows rs ss

-- the least cost of the group at this place is known
abbrev pub IsClosedAt : List Row → ℕ → Type 0
IsClosedAt rows place = (row_at rows place).low ≡ (row_at rows place).up

-- the graph is one of this instance: what it knows of each group is true of it
abbrev pub IsGraphOf : Instance → Graph → Type 0
IsGraphOf inst graph = IsKnown (problem_of inst) graph

-- What is kept of a group is what working it out afresh gives. Its tests need not all be evaluated: the sum of one that waits
-- is at least the number that it waits with, and one of which the sum is above an up can't lead below it. Where the lists have no
-- room for all tests, those of which the sums are above a number may be missing.
use Rattle.std.specs.Prelude.{◌≡◌, ◌⊎◌, ℕ, ◌<◌, ◌≤◌, true, false, All, List, [], ◌∷◌, ◌++◌, map, Some, slice_get, swap_remove}
use Rattle.seq_theory.specs.Problem.{Problem, IsIn, splits, pass_part, fail_part, splitting, weight_of}
use Rattle.seq_theory.specs.Bound.{bound as bound_of, step_sum}
use Rattle.seq_graph.specs.declared.node.Node.{Node}
use Rattle.seq_graph.specs.declared.node.Split.{Split}
use Rattle.seq_graph.specs.declared.node.Waiting.{Waiting}
use Rattle.seq_graph.specs.Numbered.{Numbered, HasNumber}

-- the parts of the group by the test have these numbers
pub record HasParts (p : Problem) (v : Numbered) (group : List ℕ) (s : Split) : Type 0 where
  pub passing : HasNumber v (pass_part p s.test group) s.pass
  pub failing : HasNumber v (fail_part p s.test group) s.fail

-- the entry is one of the list
abbrev pub Waits : Waiting → List Waiting → Type 0
Waits w [] = ⊥
Waits w (x ∷ rest) = (x ≡ w) ⊎ Waits w rest

-- the test waits with a number that is at most its sum
pub record IsBelow (sum : ℕ → ℕ) (waiting : List Waiting) (t : ℕ) : Type 0 where
  pub entry : Waiting
  pub waits : Waits entry waiting
  pub test_is : entry.test ≡ t
  pub least : entry.least ≤ sum t

-- the test is among the evaluated ones, or waits with a number that is at most its sum, or its sum is above the up
abbrev pub IsCovered : (sum : ℕ → ℕ) → (up : ℕ) → List Split → List Waiting → ℕ → Type 0
IsCovered sum up splits waiting t = IsIn t (map (λ s. s.test) splits) ⊎ (IsBelow sum waiting t ⊎ (up < sum t))

-- the tests that split the group, by what is known of their sums: each is covered; those that were evaluated have the numbers
-- of their parts; and no other test is listed or waits
pub record AreTestsOf (p : Problem) (v : Numbered) (group : List ℕ) (sum : ℕ → ℕ) (up : ℕ) (splits : List Split) (waiting : List Waiting) : Type 0 where
  pub covers : (t : ℕ) → IsIn t (splitting p group) → IsCovered sum up splits waiting t
  pub parts : All (HasParts p v group) splits
  pub splits_are : All (λ s. IsIn s.test (splitting p group)) splits
  pub waiting_are : All (λ w. IsIn w.test (splitting p group)) waiting

-- what is kept of a group at first: its number, its weight and its bound. Its row isn't capped by greedy's cost, and its tests may
-- all be missing
pub record IsKeptOf (p : Problem) (v : Numbered) (group : List ℕ) (k : Node) : Type 0 where
  pub number : HasNumber v group k.number
  pub weight : k.weight ≡ weight_of p group
  pub bound : k.bound ≡ bound_of p group
  pub uncapped : k.capped ≡ false
  pub tests : AreTestsOf p v group (step_sum p (bound_of p) group) k.most k.splits.items k.waiting.items

-- the entry at the place waits no longer, the last one of the list stands there, and its test is the last of the evaluated
-- ones, with the numbers of its parts
pub record EvaluatesAt (p : Problem) (v : Numbered) (group : List ℕ) (at : ℕ) (old new : Node) : Type 0 where
  pub entry : Waiting
  pub split : Split
  pub waited : slice_get old.waiting.items at ≡ Some entry
  pub waiting : new.waiting.items ≡ swap_remove old.waiting.items at entry
  pub test_is : split.test ≡ entry.test
  pub parts : HasParts p v group split
  pub splits : new.splits.items ≡ old.splits.items ++ split ∷ []

-- whatever the sums and the up are: what the lists tell of the group's tests before is told after
abbrev pub KeepsTests : Problem → (before after : Numbered) → List ℕ → (old new : Node) → Type 0
KeepsTests p before after group old new = (sum : ℕ → ℕ) (up : ℕ) → AreTestsOf p before group sum up old.splits.items old.waiting.items
    → AreTestsOf p after group sum up new.splits.items new.waiting.items

-- each splitting test below a number waits with at most its sum, or its sum is above the up; and no other test waits
pub record WaitingSoFar (p : Problem) (group : List ℕ) (sum : ℕ → ℕ) (up test : ℕ) (waiting : List Waiting) : Type 0 where
  pub covers : (t : ℕ) → t < test → splits p group t ≡ true → IsBelow sum waiting t ⊎ (up < sum t)
  pub are : All (λ w. (w.test < test) × (splits p group w.test ≡ true)) waiting

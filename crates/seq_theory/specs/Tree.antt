-- Strategies, and what they cost.
use Rattle.std.specs.Prelude.{◌≡◌, ℕ, ◌+◌, ◌*◌, ◌<◌, ◌≤◌, Bool, cond, List, [], ◌∷◌}
use Rattle.seq_theory.specs.Problem.{Problem, IsIn}

-- a strategy: an end, or a test with what follows where it passes and where it fails
pub data Tree : Type 0 where
  leaf : Tree
  ask : (test : ℕ) (pass fail : Tree) → Tree

-- the tests that a class meets on its way, from the first
abbrev pub asked : Problem → Tree → ℕ → List ℕ
asked p leaf c = []
asked p (ask t pass fail) c = t ∷ cond (p.passes t c) (asked p pass c) (asked p fail c)

-- the answers on its way, which say at which leaf it ends
abbrev pub answers : Problem → Tree → ℕ → List Bool
answers p leaf c = []
answers p (ask t pass fail) c = p.passes t c ∷ cond (p.passes t c) (answers p pass c) (answers p fail c)

-- the sum of the costs of the tests
abbrev pub costs_of : Problem → List ℕ → ℕ
costs_of p [] = 0
costs_of p (t ∷ rest) = p.cost t + costs_of p rest

-- what the strategy costs over the group: each class's weight times the costs of the tests that it meets
abbrev pub tree_cost : Problem → Tree → List ℕ → ℕ
tree_cost p tree [] = 0
tree_cost p tree (c ∷ rest) = p.weight c * costs_of p (asked p tree c) + tree_cost p tree rest

-- the strategy asks only tests that are there
abbrev pub AsksOnly : ℕ → Tree → Type 0
AsksOnly tests leaf = Unit {0}
AsksOnly tests (ask t pass fail) = (t < tests) × AsksOnly tests pass × AsksOnly tests fail

-- classes of the group that end at one leaf have one goal
abbrev pub IsRight : Problem → Tree → List ℕ → Type 0
IsRight p tree group = (a b : ℕ) → IsIn a group → IsIn b group → answers p tree a ≡ answers p tree b → p.goal a ≡ p.goal b

-- a right strategy for the group, over the tests that are there
pub record Solves (p : Problem) (tree : Tree) (group : List ℕ) : Type 0 where
  pub there : AsksOnly p.tests tree
  pub right : IsRight p tree group

-- the number is what some right strategy costs, and none undercuts it
pub record IsLeast (p : Problem) (group : List ℕ) (n : ℕ) : Type 0 where
  pub reached : (tree : Tree) × Solves p tree group × (tree_cost p tree group ≡ n)
  pub least : (tree : Tree) → Solves p tree group → n ≤ tree_cost p tree group

-- The shape of a strategy: how many tests a path asks, how many leaves there are, and where a class ends.
use Rattle.std.specs.Prelude.{◌≡◌, ℕ, ◌+◌, true, cond, max, List}
use Rattle.seq_theory.specs.Problem.{Problem, pass_part, fail_part, splits}
use Rattle.seq_theory.specs.Tree.{Tree, leaf, ask}

-- the most tests that a path asks
abbrev pub height : Tree → ℕ
height leaf = 0
height (ask t pass fail) = 1 + max (height pass) (height fail)

-- how many leaves the strategy has
abbrev pub leaf_count : Tree → ℕ
leaf_count leaf = 1
leaf_count (ask t pass fail) = leaf_count pass + leaf_count fail

-- the leaf at which the class ends; leaves are numbered in preorder from 0, those of the passing side first
abbrev pub leaf_of : Problem → Tree → ℕ → ℕ
leaf_of p leaf c = 0
leaf_of p (ask t pass fail) c = cond (p.passes t c) (leaf_of p pass c) (leaf_count pass + leaf_of p fail c)

-- each test that the strategy asks splits the group that reaches it
abbrev pub AsksSplitting : Problem → Tree → List ℕ → Type 0
AsksSplitting p leaf group = Unit {0}
AsksSplitting p (ask t pass fail) group = (splits p group t ≡ true) × AsksSplitting p pass (pass_part p t group) × AsksSplitting p fail (fail_part p t group)

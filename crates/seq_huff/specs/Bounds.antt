-- What a caller learns of the bounds of a group.
use Rattle.std.specs.Prelude.{◌≡◌, ℕ, ◌<◌, ◌≤◌, Bool, true, false, List, IsPermutation}
use Rattle.seq_theory.specs.Problem.{Problem, splits, is_end}
use Rattle.seq_theory.specs.Tree.{Tree, Solves, tree_cost}
use Rattle.seq_theory.specs.Bound.{bound, step_sum}
use Rattle.seq_theory.specs.Graph.{part, IsWanted}
pub use Rattle.seq_inst.specs.Stands.{greatest_cost}
use Rattle.seq_theory.specs.Huffman.{BinaryTree, leaves, path_length_at}

-- no binary tree with one leaf for each weight has a smaller weighted path length
abbrev pub UndercutsTrees : List ℕ → ℕ → Type 0
UndercutsTrees weights n = (t : BinaryTree) → IsPermutation weights (leaves t) → n ≤ path_length_at 0 t

-- no right strategy for the group costs less
abbrev pub IsAtMostLeast : Problem → List ℕ → ℕ → Type 0
IsAtMostLeast p group n = (tree : Tree) → Solves p tree group → n ≤ tree_cost p tree group

-- some right strategy for the group costs no more
abbrev pub IsAtLeastLeast : Problem → List ℕ → ℕ → Type 0
IsAtLeastLeast p group n = (tree : Tree) × Solves p tree group × (tree_cost p tree group ≤ n)

-- where the group is wanted, so is each part of it by a splitting test that costs at most this, with the bounds of both
-- parts
abbrev pub WantsParts : Problem → List ℕ → ℕ → Type 0
WantsParts p group n = (t : ℕ) (passed : Bool) → IsWanted p group → is_end p group ≡ false → t < p.tests → splits p group t ≡ true → step_sum p (bound p) group t ≤ n → IsWanted p (part p t passed group)

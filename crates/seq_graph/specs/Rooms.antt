-- Room for groups that are entered later: with it nothing that a walk does takes memory.
use Rattle.std.specs.Prelude.{ℕ, ◌+◌, ◌≤◌, length, vec_capacity}
use Rattle.seq_graph.specs.declared.graph.Graph.{Graph}
use Rattle.seq_graph.specs.Numbered.{capacity}

-- the graph has room for so many more groups: for their rows and what is kept of each, for their numbers, and for what each group
-- counts that can have a number. Lists of their tests aren't promised: without them sums are worked out the plain way
pub record HasRoom (more : ℕ) (g : Graph) : Type 0 where
  pub rows : length g.rows.items + more ≤ vec_capacity g.rows
  pub nodes : length g.nodes.items + more ≤ vec_capacity g.nodes
  pub numbers : more ≤ g.numbers.held
  pub counts : capacity g.numbers ≤ vec_capacity g.counts

-- whatever room there was, is still there
abbrev pub KeepsRoom : Graph → Graph → Type 0
KeepsRoom old new = (more : ℕ) → HasRoom more old → HasRoom more new

-- room for one group is used
abbrev pub UsesRoomOfOne : Graph → Graph → Type 0
UsesRoomOfOne old new = (more : ℕ) → HasRoom (1 + more) old → HasRoom more new

-- The tree that a strategy is.
use Rattle.seq_theory.specs.Tree.{Tree, leaf, ask}
use Rattle.seq_inst.specs.declared.strategy.Strategy.{Strategy, Leaf, Ask'}

abbrev pub tree_of : Strategy → Tree
tree_of Leaf = leaf
tree_of (Ask' test p pass q fail) = ask test (tree_of pass) (tree_of fail)

use Rattle.seq_inst.specs.Shapes.{height}
use Rattle.seq_inst.specs.Trees.{tree_of}
use Rattle.seq_cert.proofs.tree.+write_tree.Given as goal

abbrev pub decreases-write_tree : goal.decreases-write_tree
decreases-write_tree l = height (tree_of l.strategy.now)

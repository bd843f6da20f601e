use Rattle.seq_inst.specs.Shapes.{height}
use Rattle.seq_inst.specs.Trees.{tree_of}
use Rattle.seq_inst.proofs.costs.+cost_of.Given as goal

abbrev pub decreases-cost_of : goal.decreases-cost_of
decreases-cost_of l = height (tree_of l.strategy.now)

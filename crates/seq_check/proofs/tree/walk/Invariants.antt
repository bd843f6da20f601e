use Rattle.seq_inst.specs.Instances.{problem_of}
use Rattle.seq_check.proofs.TreeWalk.{Walk}
use Rattle.seq_check.proofs.tree.walk.Given as goal

-- the lines before this one are good
abbrev pub invariant-loop-at : goal.invariant-loop-at
invariant-loop-at l = Walk (problem_of l.inst) l.line l.at l.tree l.stack.items l.cost

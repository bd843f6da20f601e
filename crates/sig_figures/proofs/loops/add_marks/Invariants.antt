use Rattle.sig_figures.proofs.LoopLaws.{Added}
use Rattle.sig_figures.proofs.loops.add_marks.Given as goal

-- the marks so far are added
abbrev pub invariant-loop-node : goal.invariant-loop-node
invariant-loop-node l = Added l.nodes l.initial.marks l.marks l.node

use Rattle.sig_figures.proofs.LoopLaws.{MarksLoops}
use Rattle.sig_figures.proofs.loops.looped_in_any.Given as goal

-- the loops of the modes so far are marked
abbrev pub invariant-loop-mode : goal.invariant-loop-mode
invariant-loop-mode l = MarksLoops l.flat l.mode l.marks.items

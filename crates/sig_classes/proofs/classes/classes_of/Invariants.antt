use Rattle.sig_classes.proofs.GroupingLaws.{Grouped}
use Rattle.sig_classes.proofs.classes.classes_of.Given as goal

-- the states so far are in their classes
abbrev pub invariant-loop-state : goal.invariant-loop-state
invariant-loop-state l = Grouped l.matrix l.state l.seen.keys l.classes.class_of.items l.classes.weights.items

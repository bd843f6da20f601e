use Rattle.sig_matrix.specs.Detection.{system_of}
use Rattle.sig_classes.proofs.PassedLaws.{Passed}
use Rattle.sig_classes.proofs.instance.passes_of.Given as goal

-- the states so far are told by their classes
abbrev pub invariant-loop-state : goal.invariant-loop-state
invariant-loop-state l = Passed (system_of l.matrix) l.state l.found l.passes.items

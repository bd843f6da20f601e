use Rattle.std.proofs.Common.{◌≡◌, map}
use Rattle.seq_theory.specs.Problem.{count_up}
use Rattle.sig_classes.specs.Labels.{state_label}
use Rattle.sig_classes.proofs.labels.state_labels.Given as goal

-- the labels of the states so far
abbrev pub invariant-loop-state : goal.invariant-loop-state
invariant-loop-state l = l.states ≡ map (state_label l.matrix) (count_up 0 l.state)

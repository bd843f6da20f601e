-- The labels of a matrix.
use Rattle.std.specs.Prelude.{ℕ, List, map}
use Rattle.seq_theory.specs.Problem.{count_up}
use Rattle.seq_theory.specs.States.{class_of}
use Rattle.sig_lines.specs.declared.labels.Labels.{Labels}
use Rattle.sig_lines.specs.declared.labels.StateLabel.{StateLabel}
use Rattle.sig_matrix.specs.declared.matrix.Matrix.{Matrix}
use Rattle.sig_matrix.specs.Detection.{state_count, state_weight, system_of, state_name}

-- a state's weight, its name and its ambiguity group
abbrev pub state_label : Matrix → ℕ → StateLabel
state_label matrix s = record { weight = state_weight matrix s; label = state_name matrix s; class = class_of (system_of matrix) s }

-- the labels of the states, in order
abbrev pub state_labels_of : Matrix → List StateLabel
state_labels_of matrix = map (state_label matrix) (count_up 0 (state_count matrix))

-- the mode's name, each state with its weight, its name and its ambiguity group, and each test with its cost and its name
abbrev pub labels_from : Matrix → List ℕ → Labels
labels_from matrix mode = record { mode = mode; states = state_labels_of matrix; tests = matrix.tests }

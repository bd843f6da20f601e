use Rattle.std.proofs.Common.{◌≡◌, map}
use Rattle.seq_theory.specs.Problem.{count_up}
use Rattle.sig_lines.specs.Written.{with_lines}
use Rattle.sig_matrix.specs.MatrixText.{state_words}
use Rattle.sig_matrix.proofs.text.write_states.Given as goal

-- the states before this one are written
abbrev pub invariant-loop-state : goal.invariant-loop-state
invariant-loop-state l = l.out ≡ with_lines l.fn.out (map (state_words l.matrix) (count_up 0 l.state))

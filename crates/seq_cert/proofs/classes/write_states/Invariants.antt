use Rattle.std.proofs.Common.{◌≡◌, map, take}
use Rattle.std.specs.Prelude.{slice_index_or}
use Rattle.sig_lines.specs.Written.{with_lines}
use Rattle.seq_cert.specs.ByClass.{no_state}
use Rattle.seq_cert.specs.Text.{state_words}
use Rattle.seq_cert.specs.OutcomeReport.{state_line}
use Rattle.seq_cert.proofs.classes.write_states.Given as goal

-- the states before this one are written
abbrev pub invariant-loop-at : goal.invariant-loop-at
invariant-loop-at l = l.out ≡ with_lines l.fn.out (map (λ i. state_words (state_line (slice_index_or l.states i no_state))) (take l.at l.numbers))

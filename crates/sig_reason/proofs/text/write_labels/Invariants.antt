use Rattle.std.proofs.Common.{◌≡◌, map}
use Rattle.seq_theory.specs.Problem.{count_up}
use Rattle.sig_lines.specs.Written.{with_lines}
use Rattle.sig_reason.specs.ReasonText.{label_words}
use Rattle.sig_reason.proofs.text.write_labels.Given as goal

-- the faults before this one are written
abbrev pub invariant-loop-fault : goal.invariant-loop-fault
invariant-loop-fault l = l.out ≡ with_lines l.fn.out (map (label_words l.matrix l.labels) (count_up 0 l.fault))

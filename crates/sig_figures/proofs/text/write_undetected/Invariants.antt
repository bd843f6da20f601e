use Rattle.std.proofs.Common.{◌≡◌, map, take}
use Rattle.sig_lines.specs.Written.{with_lines}
use Rattle.sig_figures.specs.FiguresText.{undetected_words}
use Rattle.sig_figures.proofs.text.write_undetected.Given as goal

-- the lines before this one are written
abbrev pub invariant-loop-fault : goal.invariant-loop-fault
invariant-loop-fault l = l.out ≡ with_lines l.fn.out (map (undetected_words l.matrix) (take l.fault-index l.faults))

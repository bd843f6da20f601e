use Rattle.std.proofs.Common.{◌≡◌, ◌+◌, drop}
use Rattle.seq_check.specs.Lines.{class_length}
use Rattle.seq_check.proofs.places.class_length.Given as goal

-- the lines so far, and those of the classes from this one on
abbrev pub invariant-loop-line : goal.invariant-loop-line
invariant-loop-line l = l.length + class_length (drop l.line-index l.lines) ≡ class_length l.lines

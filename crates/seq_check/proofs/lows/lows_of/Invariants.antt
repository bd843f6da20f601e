use Rattle.std.proofs.Common.{take}
use Rattle.seq_check.specs.Listed.{AreLows}
use Rattle.seq_check.proofs.lows.lows_of.Given as goal

-- the lows of the lines before this one
abbrev pub invariant-loop-line : goal.invariant-loop-line
invariant-loop-line l = AreLows l.lows (take l.line-index l.lines)

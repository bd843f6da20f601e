use Rattle.std.proofs.Common.{take}
use Rattle.seq_inst.specs.Instances.{problem_of}
use Rattle.seq_check.specs.Listed.{AreBelow}
use Rattle.seq_check.proofs.below.below_of.Given as goal

-- the groups of the lines before this one
abbrev pub invariant-loop-line : goal.invariant-loop-line
invariant-loop-line l = AreBelow (problem_of l.inst) l.below (take l.line-index l.lines)

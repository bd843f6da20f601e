use Rattle.std.proofs.Common.{◌≡◌, ◌+◌, drop, None}
use Rattle.seq_inst.specs.Instances.{problem_of}
use Rattle.seq_check.specs.Looks.{first_bad}
use Rattle.seq_check.specs.GroupLooks.{claims_of, group_looks}
use Rattle.seq_check.proofs.groups.first_in_groups.Given as goal

-- the lines before this one are good
abbrev pub invariant-loop-at : goal.invariant-loop-at
invariant-loop-at l = first_bad (group_looks (problem_of l.inst) l.line l.low (claims_of l.lines) None l.lines) ≡ first_bad (group_looks (problem_of l.inst) (l.line + l.at) l.low (claims_of l.lines) l.before (drop l.at l.lines))

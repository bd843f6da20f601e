use Rattle.std.proofs.Common.{List}
use Rattle.seq_theory.specs.Claims.{claimed}
use Rattle.seq_inst.specs.Members.{members}
use Rattle.seq_inst.specs.Instances.{problem_of}
use Rattle.seq_cert.specs.declared.report.GroupLine.{GroupLine}
use Rattle.seq_check.specs.GroupLooks.{claims_of}
use Rattle.seq_check.specs.Listed.{IsListing}
use Rattle.seq_check.proofs.LeastSums.{Sums}
use Rattle.seq_check.proofs.claim.is_allowed.Given as goal

-- the sums of the splitting tests before this one are at least the low
abbrev pub invariant-loop-test : goal.invariant-loop-test
invariant-loop-test l = (lines : List GroupLine) → IsListing (problem_of l.inst) l.listing lines → Sums (problem_of l.inst) (claimed (problem_of l.inst) (claims_of lines)) (members (l.line).group) (l.line).low l.test l.some

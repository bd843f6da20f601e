use Rattle.std.proofs.Common.{length}
use Rattle.sig_reason.proofs.LogLaws.{IsReadTo}
use Rattle.sig_reason.proofs.log.findings_of.Given as goal

-- the lines so far say what was found so far
abbrev pub invariant-loop-finding : goal.invariant-loop-finding
invariant-loop-finding l = IsReadTo l.matrix ((l.fn.start).rest).now l.found.items (l.at).number ((l.at).rest).now

abbrev pub decreases-loop-finding : goal.decreases-loop-finding
decreases-loop-finding l = length ((l.at).rest).now

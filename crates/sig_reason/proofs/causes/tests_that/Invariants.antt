use Rattle.sig_reason.proofs.FindingLaws.{TellsFirst}
use Rattle.sig_reason.proofs.causes.tests_that.Given as goal

-- the findings so far are told
abbrev pub invariant-loop-finding : goal.invariant-loop-finding
invariant-loop-finding l = TellsFirst l.findings l.failed l.finding-index l.row

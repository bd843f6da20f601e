use Rattle.sig_reason.proofs.FindingLaws.{AreFirstStandings}
use Rattle.sig_reason.proofs.causes.standings_of.Given as goal

-- what the tests say of the faults so far
abbrev pub invariant-loop-fault : goal.invariant-loop-fault
invariant-loop-fault l = AreFirstStandings l.matrix l.passed l.failed l.fault l.standings.items

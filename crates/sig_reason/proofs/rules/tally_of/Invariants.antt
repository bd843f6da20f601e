use Rattle.sig_reason.specs.Rules.{IsTally}
use Rattle.sig_reason.proofs.rules.tally_of.Given as goal

-- the faults so far are counted
abbrev pub invariant-loop-standing : goal.invariant-loop-standing
invariant-loop-standing l = IsTally l.standings l.standing-index l.tally

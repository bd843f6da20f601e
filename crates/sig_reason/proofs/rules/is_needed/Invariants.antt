use Rattle.sig_reason.specs.Rules.{SparesEach}
use Rattle.sig_reason.proofs.rules.is_needed.Given as goal

-- each row so far has a test of which the fault isn't a cause
abbrev pub invariant-loop-within : goal.invariant-loop-within
invariant-loop-within l = SparesEach l.causes l.withins l.within-index

use Rattle.sig_reason.specs.Rules.{IsOutside}
use Rattle.sig_reason.proofs.rules.tests_outside.Given as goal

-- the faults so far are gathered
abbrev pub invariant-loop-standing : goal.invariant-loop-standing
invariant-loop-standing l = IsOutside l.standings l.test l.standing-index l.row

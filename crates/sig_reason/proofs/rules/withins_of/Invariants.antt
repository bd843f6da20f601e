use Rattle.sig_reason.specs.Rules.{AreWithins}
use Rattle.sig_reason.proofs.rules.withins_of.Given as goal

-- the failed tests so far have their rows
abbrev pub invariant-loop-test : goal.invariant-loop-test
invariant-loop-test l = AreWithins l.standings l.failed l.test l.rows.items

use Rattle.sig_types.specs.Breaches.{test_breaches}
use Rattle.sig_types.proofs.VerdictLaws.{AreChecked}
use Rattle.sig_types.proofs.check.block.check_tests.Given as goal

abbrev pub invariant-loop-t : goal.invariant-loop-t
invariant-loop-t l = AreChecked (test_breaches l.index l.block l.point) l.tests l.t

use Rattle.sig_types.specs.declared.model.Point.{Point}
use Rattle.sig_types.specs.Breaches.{each, test_breaches}
use Rattle.sig_types.proofs.VerdictLaws.{AreChecked}
use Rattle.sig_types.proofs.check.block.check_points.Given as goal

abbrev pub invariant-loop-p : goal.invariant-loop-p
invariant-loop-p l = AreChecked (λ p (point : Point). each (test_breaches l.index l.block p) point.tests) l.points l.p

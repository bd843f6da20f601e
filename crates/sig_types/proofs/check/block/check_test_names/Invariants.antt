use Rattle.std.proofs.Common.{None}
use Rattle.sig_types.specs.declared.model.Point.{Point}
use Rattle.sig_types.specs.declared.model.Test.{Test}
use Rattle.sig_types.specs.declared.refusals.Key.TheVariants.{Name}
use Rattle.sig_types.specs.Breaches.{each, in_test, named, repeats}
use Rattle.sig_types.proofs.VerdictLaws.{AreChecked}
use Rattle.sig_types.proofs.check.block.check_test_names.Given as goal

abbrev pub invariant-loop-p : goal.invariant-loop-p
invariant-loop-p l = AreChecked (λ p (point : Point). repeats (each (λ t (test : Test). named test.name (in_test l.block p t Name None)) point.tests)) l.points l.p

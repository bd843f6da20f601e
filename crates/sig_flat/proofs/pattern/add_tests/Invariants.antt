use Rattle.std.proofs.Common.{◌≡◌, ◌++◌, map, take}
use Rattle.sig_flat.specs.Patterns.{test_pattern}
use Rattle.sig_flat.proofs.pattern.add_tests.Given as goal

abbrev pub invariant-loop-test : goal.invariant-loop-test
invariant-loop-test l = l.tests ≡ l.initial.tests ++ map (test_pattern l.valid.signals l.valid.modes l.at l.point.name) (take l.test-index l.point.tests)

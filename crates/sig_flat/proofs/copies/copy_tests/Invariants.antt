use Rattle.std.proofs.Common.{◌≡◌, ◌++◌, map, take}
use Rattle.sig_flat.specs.Placed.{test_copy, CostsFit, TestsLabelled}
use Rattle.sig_flat.proofs.copies.copy_tests.Given as goal

abbrev pub invariant-loop-test : goal.invariant-loop-test
invariant-loop-test l = (l.tests ≡ l.initial.tests ++ map (test_copy l.placed) (take l.test-index l.patterns)) × (CostsFit l.initial.tests → CostsFit l.tests) × (TestsLabelled l.initial.tests → TestsLabelled l.tests)

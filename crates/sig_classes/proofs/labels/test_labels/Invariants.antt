use Rattle.std.proofs.Common.{◌≡◌, take}
use Rattle.sig_classes.proofs.labels.test_labels.Given as goal

-- the labels of the tests so far
abbrev pub invariant-loop-test : goal.invariant-loop-test
invariant-loop-test l = l.tests ≡ take l.test-index l.matrix.tests

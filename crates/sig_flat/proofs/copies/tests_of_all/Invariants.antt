use Rattle.std.proofs.Common.{◌≡◌, take}
use Rattle.std.specs.List.{flat_map}
use Rattle.sig_flat.specs.Placed.{test_copies, CostsFit, TestsLabelled}
use Rattle.sig_flat.proofs.copies.tests_of_all.Given as goal

abbrev pub invariant-loop-instance : goal.invariant-loop-instance
invariant-loop-instance l = (l.tests ≡ flat_map (test_copies l.patterns) (take l.instance-index l.placed)) × CostsFit l.tests × TestsLabelled l.tests

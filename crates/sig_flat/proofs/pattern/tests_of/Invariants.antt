use Rattle.std.proofs.Common.{◌≡◌, ◌+◌, ◌++◌, drop}
use Rattle.sig_flat.specs.Patterns.{test_patterns_from}
use Rattle.sig_flat.proofs.pattern.tests_of.Given as goal

abbrev pub invariant-loop-k : goal.invariant-loop-k
invariant-loop-k l = test_patterns_from l.valid.signals l.valid.modes l.first l.block.points ≡ l.tests ++ test_patterns_from l.valid.signals l.valid.modes (l.first + l.k) (drop l.k l.block.points)

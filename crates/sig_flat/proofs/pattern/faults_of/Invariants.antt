use Rattle.std.proofs.Common.{◌≡◌, ◌+◌, ◌++◌, drop}
use Rattle.sig_flat.specs.Patterns.{fault_patterns_from}
use Rattle.sig_flat.proofs.pattern.faults_of.Given as goal

abbrev pub invariant-loop-k : goal.invariant-loop-k
invariant-loop-k l = fault_patterns_from l.valid.signals l.first l.block.parts ≡ l.faults ++ fault_patterns_from l.valid.signals (l.first + l.k) (drop l.k l.block.parts)

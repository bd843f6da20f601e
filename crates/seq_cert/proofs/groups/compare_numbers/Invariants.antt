use Rattle.std.proofs.Common.{◌≡◌, ◌-◌, drop, length}
use Rattle.seq_cert.proofs.groups.compare_numbers.Given as goal

-- the words above are equal
abbrev pub invariant-loop-passed : goal.invariant-loop-passed
invariant-loop-passed l = drop (length l.a - l.passed) l.a ≡ drop (length l.a - l.passed) l.b

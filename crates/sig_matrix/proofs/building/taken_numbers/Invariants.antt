use Rattle.std.proofs.Common.{◌≡◌, ◌<◌, length, map, take}
use Rattle.std.specs.Prelude.{All}
use Rattle.sig_matrix.specs.Detection.{taken, test_at}
use Rattle.sig_matrix.proofs.building.taken_numbers.Given as goal

abbrev pub invariant-loop-number : goal.invariant-loop-number
invariant-loop-number l = All (λ n. n < length l.tests) l.numbers.items × (map (test_at l.tests) l.numbers.items ≡ taken l.mode (take l.number l.tests))

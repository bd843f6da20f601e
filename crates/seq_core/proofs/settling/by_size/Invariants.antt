use Rattle.std.proofs.Common.{◌≡◌}
use Rattle.seq_theory.specs.Problem.{count_up}
use Rattle.seq_core.proofs.settling.by_size.Given as goal

abbrev pub invariant-loop-place : goal.invariant-loop-place
invariant-loop-place l = l.places.items ≡ count_up 0 l.place

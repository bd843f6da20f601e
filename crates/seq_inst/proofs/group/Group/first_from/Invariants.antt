use Rattle.std.proofs.Common.{◌≡◌, ℕ, ◌*◌, ◌<◌, ◌≤◌}
use Rattle.std.specs.Prelude.{false}
use Rattle.seq_inst.specs.Members.{has_class}
use Rattle.seq_inst.proofs.group.Group.first_from.Given as goal

abbrev pub invariant-loop-i : goal.invariant-loop-i
invariant-loop-i l = (k : ℕ) → l.class ≤ k → k < 64 * l.i → has_class l.self k ≡ false

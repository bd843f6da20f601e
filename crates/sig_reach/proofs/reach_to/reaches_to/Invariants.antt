use Rattle.std.proofs.Common.{◌≡◌, ◌<◌, ℕ, length, true}
use Rattle.sig_reach.specs.Marks.{is_marked}
use Rattle.sig_reach.specs.Columns.{HasColumn}
use Rattle.sig_reach.proofs.reach_to.reaches_to.Given as goal

abbrev pub invariant-loop-node : goal.invariant-loop-node
invariant-loop-node l = (length l.columns.items ≡ l.node) × ((v : ℕ) → v < l.node → is_marked l.wanted.items v ≡ true → HasColumn l.flat l.mode l.columns.items v)

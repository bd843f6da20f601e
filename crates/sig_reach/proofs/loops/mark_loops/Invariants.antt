use Rattle.std.proofs.Common.{◌≡◌, ◌<◌, ℕ, length, true}
use Rattle.std.specs.Prelude.{◌↔◌}
use Rattle.sig_reach.specs.Marks.{is_marked, LeadsTo, all_open}
use Rattle.sig_reach.proofs.loops.mark_loops.Given as goal

abbrev pub invariant-loop-node : goal.invariant-loop-node
invariant-loop-node l = (length l.marks.items ≡ l.node) × ((v : ℕ) → v < l.node → (is_marked l.marks.items v ≡ true) ↔ LeadsTo l.sources (all_open l.sources) v v)

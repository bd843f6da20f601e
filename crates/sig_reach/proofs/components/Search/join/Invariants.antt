use Rattle.std.proofs.Common.{ℕ, ◌<◌, ◌≤◌, length}
use Rattle.std.specs.Prelude.{slice_index}
use Rattle.sig_reach.proofs.components.Search.join.Given as goal

abbrev pub invariant-above : goal.invariant-above
invariant-above l = (l.kept ≤ length l.self.starts.items) × ((k : ℕ) → l.kept ≤ k → k < length l.self.starts.items → l.place < slice_index l.self.starts.items k)

abbrev pub decreases-above : goal.decreases-above
decreases-above l = l.kept

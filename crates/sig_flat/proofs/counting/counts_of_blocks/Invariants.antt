use Rattle.std.proofs.Common.{◌≡◌, ◌<◌, ℕ, length, get_or}
use Rattle.sig_flat.specs.Counting.{no_counts}
use Rattle.sig_flat.specs.Surveys.{AreCounts}
use Rattle.sig_flat.proofs.counting.counts_of_blocks.Given as goal

abbrev pub invariant-loop-k : goal.invariant-loop-k
invariant-loop-k l = (length l.counts.items ≡ l.k) × ((n : ℕ) → n < l.k → AreCounts l.fn.valid n (get_or l.counts.items n no_counts))

use Rattle.std.proofs.Common.{◌≡◌, ◌<◌, ℕ, [], length, get_or}
use Rattle.sig_flat.specs.Resolved.{block_at}
use Rattle.sig_flat.specs.Placed.{no_pattern}
use Rattle.sig_flat.specs.Counting.{sizes_in}
use Rattle.sig_flat.specs.Layouts.{inners_from}
use Rattle.sig_flat.proofs.layout.inners_of_blocks.Given as goal

abbrev pub invariant-loop-k : goal.invariant-loop-k
invariant-loop-k l = (length l.inners.items ≡ l.k) × ((n : ℕ) → n < l.k → get_or l.inners.items n [] ≡ inners_from (sizes_in l.counts) (length (get_or l.patterns n no_pattern).nodes) (block_at l.blocks n).uses (get_or l.numbers n []))

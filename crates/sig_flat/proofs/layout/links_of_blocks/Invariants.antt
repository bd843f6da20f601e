use Rattle.std.proofs.Common.{◌≡◌, ◌<◌, ℕ, [], length, get_or}
use Rattle.sig_flat.specs.Surveys.{links_with}
use Rattle.sig_flat.proofs.layout.links_of_blocks.Given as goal

abbrev pub invariant-loop-k : goal.invariant-loop-k
invariant-loop-k l = (length l.links.items ≡ l.k) × ((n : ℕ) → n < l.k → get_or l.links.items n [] ≡ links_with l.valid n (get_or l.inners n []))

use Rattle.std.proofs.Common.{◌≡◌, ◌<◌, ℕ, length, get_or}
use Rattle.sig_matrix.specs.Filling.{IsWanted}
use Rattle.sig_matrix.proofs.building.wanted_nodes.Given as goal

abbrev pub invariant-loop-number : goal.invariant-loop-number
invariant-loop-number l = (length l.wanted.items ≡ length l.fn.flat.nodes) × ((k : ℕ) → k < l.number-index → IsWanted l.fn.flat l.mode l.wanted.items (get_or l.numbers k 0))

use Rattle.std.proofs.Common.{◌≡◌, ◌<◌, ◌≤◌, ℕ, get_or}
use Rattle.seq_huff.proofs.sums.write_from.Given as goal

abbrev pub invariant-loop-place : goal.invariant-loop-place
invariant-loop-place l = record {
  before : (k : ℕ) → k < l.start → get_or l.out k 0 ≡ get_or l.fn.out k 0;
  after : (k : ℕ) → l.start ≤ k → k < l.place → get_or l.out k 0 ≡ l.number;
}

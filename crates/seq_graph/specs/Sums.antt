-- Sums of tests over what their parts count.
use Rattle.std.specs.Prelude.{ℕ, ◌+◌, ◌*◌, ◌<◌, ◌≤◌, List, length, slice_index}
use Rattle.seq_huff.specs.Bounds.{greatest_cost}
use Rattle.seq_graph.specs.declared.node.Split.{Split}
use Rattle.seq_graph.specs.declared.graph.Count.{Count}
use Rattle.seq_graph.specs.Counts.{count_at}

-- the sum of a test over a group of this weight, and what its parts count for a low
abbrev pub counted_sum : (costs : List ℕ) (weight : ℕ) (counts : List Count) → Split → ℕ
counted_sum costs weight counts s = slice_index costs s.test * weight + ((count_at counts s.pass).low + (count_at counts s.fail).low)

-- the test and its parts have their places, and the sum fits a word
pub record IsCountable (costs : List ℕ) (weight : ℕ) (counts : List Count) (s : Split) : Type 0 where
  pub there : s.test < length costs
  pub pass_there : s.pass < length counts
  pub fail_there : s.fail < length counts
  pub product : slice_index costs s.test * weight ≤ 4097000000000000
  pub passing : (count_at counts s.pass).low ≤ greatest_cost
  pub failing : (count_at counts s.fail).low ≤ greatest_cost

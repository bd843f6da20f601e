use Rattle.std.proofs.Common.{◌≡◌, ℕ, ◌≤◌, length, get_or, take}
use Rattle.std.specs.Prelude.{nat_le, filter}
use Rattle.seq_graph.specs.declared.node.Split.{Split}
use Rattle.seq_graph.specs.Sums.{counted_sum}
use Rattle.seq_graph.proofs.sums.leave_out.Given as goal

-- those that stay of what was gone through are in front, and the rest is as it was
abbrev pub invariant-loop-at : goal.invariant-loop-at
invariant-loop-at l = record {
  behind : l.left ≤ l.at;
  long : length l.splits.items ≡ length l.initial.splits.items;
  done : take l.left l.splits.items ≡ filter (λ s. nat_le (counted_sum l.inst.costs.items l.weight l.counts s) l.up) (take l.at l.initial.splits.items);
  rest : (k : ℕ) (d : Split) → l.at ≤ k → get_or l.splits.items k d ≡ get_or l.initial.splits.items k d;
}

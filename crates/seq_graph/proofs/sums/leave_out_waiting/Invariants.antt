use Rattle.std.proofs.Common.{◌≡◌, ℕ, ◌≤◌, length, get_or, take}
use Rattle.std.specs.Prelude.{nat_le, filter}
use Rattle.seq_graph.specs.declared.node.Waiting.{Waiting}
use Rattle.seq_graph.proofs.sums.leave_out_waiting.Given as goal

-- those that stay of what was gone through are in front, and the rest is as it was
abbrev pub invariant-loop-at : goal.invariant-loop-at
invariant-loop-at l = record {
  behind : l.left ≤ l.at;
  long : length l.waiting.items ≡ length l.initial.waiting.items;
  done : take l.left l.waiting.items ≡ filter (λ w. nat_le w.least l.up) (take l.at l.initial.waiting.items);
  rest : (k : ℕ) (d : Waiting) → l.at ≤ k → get_or l.waiting.items k d ≡ get_or l.initial.waiting.items k d;
}

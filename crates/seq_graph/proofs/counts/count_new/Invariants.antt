use Rattle.std.proofs.Common.{◌≡◌, ◌++◌, ◌≤◌, map, drop, length, vec_capacity}
use Rattle.seq_inst.specs.Instances.{problem_of}
use Rattle.seq_graph.specs.Counts.{new_count}
use Rattle.seq_graph.proofs.counts.count_new.Given as goal

-- the counts so far, and those that are missing, are together what they will be
abbrev pub invariant-loop-number : goal.invariant-loop-number
invariant-loop-number l = record {
  as_many : l.number ≡ length l.counts.items;
  capacity : vec_capacity l.initial.counts ≤ vec_capacity l.counts;
  all : l.counts.items ++ map (new_count (problem_of l.inst)) (drop l.number l.numbers.groups) ≡ l.initial.counts.items ++ map (new_count (problem_of l.inst)) (drop (length l.initial.counts.items) l.numbers.groups);
}

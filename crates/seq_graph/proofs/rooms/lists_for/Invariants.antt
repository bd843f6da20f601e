use Rattle.std.proofs.Common.{◌≡◌, length}
use Rattle.seq_graph.proofs.rooms.lists_for.Given as goal

abbrev pub invariant-loop-group : goal.invariant-loop-group
invariant-loop-group l = length l.lists.items ≡ l.group

use Rattle.seq_graph.specs.Known.{IsGraphOf}
use Rattle.seq_graph.proofs.choosing_tests.workers_part_ways_at_equal_tests.Given as goal

abbrev pub invariant-loop-number : goal.invariant-loop-number
invariant-loop-number g l = IsGraphOf l.inst l.graph

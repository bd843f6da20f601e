use Rattle.seq_inst.specs.Instances.{problem_of}
use Rattle.seq_graph.specs.Settling.{UpBelow}
use Rattle.seq_graph.proofs.plain.plain_least_up.Given as goal

abbrev pub invariant-loop-test : goal.invariant-loop-test
invariant-loop-test l = UpBelow (problem_of l.inst) l.graph.rows.items l.place l.test l.least

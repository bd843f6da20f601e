use Rattle.std.proofs.Common.{map}
use Rattle.sig_matrix.specs.Detection.{test_at}
use Rattle.sig_matrix.specs.Filling.{AreRows}
use Rattle.sig_matrix.proofs.FillingLaws.{is_behind}
use Rattle.sig_matrix.proofs.building.add_mode.Given as goal

abbrev pub invariant-loop-column : goal.invariant-loop-column
invariant-loop-column l = AreRows l.flat (map (test_at l.tests) l.numbers) (is_behind (map (test_at l.tests) l.numbers) l.mode l.column) l.rows

use Rattle.std.proofs.Common.{map}
use Rattle.sig_matrix.specs.Detection.{test_at}
use Rattle.sig_matrix.specs.Filling.{AreRows, is_before}
use Rattle.sig_matrix.proofs.building.rows_of.Given as goal

abbrev pub invariant-loop-mode : goal.invariant-loop-mode
invariant-loop-mode l = AreRows l.flat (map (test_at l.flat.tests) l.numbers) (is_before (map (test_at l.flat.tests) l.numbers) l.mode) l.rows.items

use Rattle.std.proofs.Common.{◌≡◌, map, take}
use Rattle.std.specs.Prelude.{All}
use Rattle.std.specs.List.{AllZip}
use Rattle.sig_matrix.specs.declared.matrix.FaultRow.{FaultRow}
use Rattle.sig_matrix.specs.Detection.{AreFourWords, IsRowOf}
use Rattle.sig_matrix.proofs.building.faults_with.Given as goal

abbrev pub invariant-loop-at : goal.invariant-loop-at
invariant-loop-at l = AllZip IsRowOf (take l.at l.faults) l.list × (map (λ (f : FaultRow). f.row) l.list ≡ take l.at l.rows) × All (λ (f : FaultRow). AreFourWords f.row) l.list

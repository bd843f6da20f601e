use Rattle.std.proofs.Common.{map, take}
use Rattle.std.specs.List.{AllZip}
use Rattle.sig_matrix.specs.Detection.{IsLabelOf, test_at}
use Rattle.sig_matrix.proofs.building.labels_of.Given as goal

abbrev pub invariant-loop-number : goal.invariant-loop-number
invariant-loop-number l = AllZip IsLabelOf (map (test_at l.tests) (take l.number-index l.numbers)) l.labels

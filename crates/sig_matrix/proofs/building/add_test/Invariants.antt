use Rattle.sig_matrix.proofs.FillingLaws.{IsTestAddedBelow}
use Rattle.sig_matrix.proofs.building.add_test.Given as goal

abbrev pub invariant-loop-fault : goal.invariant-loop-fault
invariant-loop-fault l = IsTestAddedBelow l.flat l.test l.column l.initial.rows l.rows l.fault

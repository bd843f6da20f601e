use Rattle.sig_figures.proofs.ColumnLaws.{Differs}
use Rattle.sig_figures.proofs.columns.differing.Given as goal

-- the rows so far are gathered
abbrev pub invariant-loop-fault : goal.invariant-loop-fault
invariant-loop-fault l = Differs l.matrix l.test l.row l.fault

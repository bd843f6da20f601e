use Rattle.sig_figures.proofs.ColumnLaws.{Sees}
use Rattle.sig_figures.proofs.columns.seeing.Given as goal

-- the rows so far are gathered
abbrev pub invariant-loop-fault : goal.invariant-loop-fault
invariant-loop-fault l = Sees l.matrix l.row l.fault

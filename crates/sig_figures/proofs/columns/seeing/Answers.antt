use Rattle.std.proofs.Common.{◌≡◌, length, get_or, ap, arith, subst}
use Rattle.sig_matrix.specs.declared.matrix.FaultRow.{FaultRow}
use Rattle.sig_figures.proofs.CoverageLaws.{fault-read}
use Rattle.sig_figures.proofs.ColumnLaws.{Sees, sees-more, sees-all}
use Rattle.sig_figures.proofs.columns.seeing.Goals as goal

pub loop-fault-preserved : goal.loop-fault-preserved
loop-fault-preserved c =
    let words = (get_or c.as_slice-faults.result.now c.loop-fault.fault c.index-faults-fault.result).row in
    let read = fault-read c.args.matrix.now c.as_slice-faults.result.now c.loop-fault.fault c.index-faults-fault.result c.as_slice-faults.ensures c.loop-fault-test.true c.index-faults-fault.is in
    sees-more c.args.matrix.now c.loop-fault.row c.with_row-next.result words c.loop-fault.fault (ap (λ (f : FaultRow). f.row) read) c.loop-fault.invariant c.with_row-next.ensures

pub returns : goal.returns
returns c =
    let long = ap length c.as_slice-faults.ensures in
    let whole : c.loop-fault.fault ≡ length c.args.matrix.now.faults = omega arith in
    sees-all c.args.matrix.now c.loop-fault.row (subst (Sees c.args.matrix.now c.loop-fault.row) whole c.loop-fault.invariant)

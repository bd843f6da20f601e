use Rattle.std.proofs.Common.{length, get_or, ap, arith}
use Rattle.sig_matrix.specs.declared.matrix.FaultRow.{FaultRow}
use Rattle.sig_figures.proofs.CoverageLaws.{fault-read, seen-decides}
use Rattle.sig_figures.proofs.coverage.is_seen.Goals as goal

pub returns : goal.returns
returns c =
    let long = ap length c.as_slice.ensures in
    let there = c.requires.fault in
    let read = fault-read c.args.matrix.now c.as_slice.result.now c.args.fault c.index-as_slice-fault.result c.as_slice.ensures (omega arith) c.index-as_slice-fault.is in
    seen-decides c.args.matrix.now c.requires.valid c.args.fault there (get_or c.as_slice.result.now c.args.fault c.index-as_slice-fault.result).row (ap (λ (f : FaultRow). f.row) read) c.is_zero.result c.is_zero.ensures.words c.is_zero.ensures.zero

use Rattle.std.proofs.Common.{◌≡◌, ◌+◌, sym, ap, ◌∙◌, arith}
use Rattle.std.specs.Prelude.{sum_by}
use Rattle.seq_theory.specs.Problem.{count_up}
use Rattle.sig_matrix.specs.declared.matrix.FaultRow.{FaultRow}
use Rattle.sig_figures.specs.Coverage.{weight_at}
use Rattle.sig_figures.proofs.UpTo.{sum-next}
use Rattle.sig_figures.proofs.CoverageLaws.{fault-read}
use Rattle.sig_figures.proofs.coverage.fault_weight.Goals as goal

pub loop-fault-preserved : goal.loop-fault-preserved
loop-fault-preserved c =
    let m = c.args.matrix.now in
    let i = c.loop-fault.fault in
    let read = fault-read m c.as_slice-faults.result.now i c.index-faults-fault.result c.as_slice-faults.ensures c.loop-fault-test.true c.index-faults-fault.is in
    let weight : c.from-sum.result ≡ weight_at m i = c.from-sum.ensures ∙ ap (λ (f : FaultRow). f.weight) read in (
      ap (λ k. k + c.from-sum.result) c.loop-fault.invariant.0 ∙ ap (λ k. sum_by (weight_at m) (count_up 0 i) + k) weight ∙ sym (sum-next (weight_at m) i),
      omega arith,
    )

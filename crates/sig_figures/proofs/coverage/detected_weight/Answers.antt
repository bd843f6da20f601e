use Rattle.std.proofs.Common.{◌≡◌, ◌+◌, sym, ap, ◌∙◌, arith}
use Rattle.std.specs.Prelude.{sum_by, filter}
use Rattle.seq_theory.specs.Problem.{count_up}
use Rattle.sig_matrix.specs.declared.matrix.FaultRow.{FaultRow}
use Rattle.sig_figures.specs.Coverage.{is_seen, weight_at}
use Rattle.sig_figures.proofs.UpTo.{sum-yes, sum-no}
use Rattle.sig_figures.proofs.CoverageLaws.{fault-read}
use Rattle.sig_figures.proofs.coverage.detected_weight.Goals as goal
use Rattle.sig_figures.proofs.coverage.detected_weight.Goals.{then-is_seen, else-is_seen}

pub loop-fault-preserved : goal.loop-fault-preserved
loop-fault-preserved c =
    let m = c.args.matrix.now in
    let i = c.loop-fault.fault in
    elim c.if-is_seen.branch [
      | then-is_seen w ↦
          (let read = fault-read m c.as_slice-faults.result.now i w.index-faults-fault.result c.as_slice-faults.ensures c.loop-fault-test.true w.index-faults-fault.is in
          let weight : w.from-sum.result ≡ weight_at m i = w.from-sum.ensures ∙ ap (λ (f : FaultRow). f.weight) read in (
            w.sum-is ∙ ap (λ k. k + w.from-sum.result) c.loop-fault.invariant.0 ∙ ap (λ k. sum_by (weight_at m) (filter (is_seen m) (count_up 0 i)) + k) weight ∙ sym (sum-yes (weight_at m) (is_seen m) i (sym w.if-is_seen.ensures)),
            omega arith,
          ))
      | else-is_seen w ↦ (w.sum-is ∙ c.loop-fault.invariant.0 ∙ sym (sum-no (weight_at m) (is_seen m) i (sym w.if-is_seen.ensures)), omega arith)
    ]

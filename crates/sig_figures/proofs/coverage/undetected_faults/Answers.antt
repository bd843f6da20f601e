use Rattle.std.proofs.Common.{ℕ, ap, sym}
use Rattle.std.specs.Prelude.{not}
use Rattle.sig_figures.specs.Coverage.{is_seen}
use Rattle.sig_figures.proofs.UpTo.{filter-yes, filter-no}
use Rattle.sig_figures.proofs.coverage.undetected_faults.Goals as goal
use Rattle.sig_figures.proofs.coverage.undetected_faults.Goals.{then-not-is_seen+in_ok-push, else-not-is_seen}

pub loop-fault-preserved : goal.loop-fault-preserved
loop-fault-preserved c =
    let p = λ (fault : ℕ). not (is_seen c.args.matrix.now fault) in
    let i = c.loop-fault.fault in
    let inv = c.loop-fault.invariant in
    elim c.if-not-is_seen.branch [
      | then-not-is_seen+in_ok-push w ↦ (let next = filter-yes p i (ap not (sym w.if-not-is_seen.ensures)) in let pushed = w.in_ok-push.ensures.ok in let is = w.faults-is in cc)
      | else-not-is_seen w ↦ (let next = filter-no p i (ap not (sym w.if-not-is_seen.ensures)) in let is = w.faults-is in cc)
    ]

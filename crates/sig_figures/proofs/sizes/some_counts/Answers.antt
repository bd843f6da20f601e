use Rattle.std.proofs.Common.{get_or, refl, ◌∙◌}
use Rattle.sig_figures.proofs.SizeLaws.{some-yes, some-no}
use Rattle.sig_figures.proofs.sizes.some_counts.Goals as goal
use Rattle.sig_figures.proofs.sizes.some_counts.Goals.{then-faults-gt0+in_ok-push, else-faults-gt0}

pub loop-states-preserved : goal.loop-states-preserved
loop-states-preserved c =
    let counts = c.args.counts.now in
    let n = c.loop-states.states in
    elim c.if-faults-gt0.branch [
      | then-faults-gt0+in_ok-push w ↦ some-yes counts n (get_or counts n 0) c.loop-states-test.true refl w.if-faults-gt0.true c.loop-states.sizes c.if-faults-gt0.sizes c.loop-states.invariant (w.sizes-is ∙ w.in_ok-push.ensures.ok)
      | else-faults-gt0 w ↦ w.sizes-is ∙ some-no counts n (get_or counts n 0) refl w.if-faults-gt0.false c.loop-states.sizes c.loop-states.invariant
    ]

use Rattle.sig_reach.specs.Marks.{is_marked}
use Rattle.sig_figures.proofs.UpTo.{filter-yes, filter-no}
use Rattle.sig_figures.proofs.loops.marked.Goals as goal
use Rattle.sig_figures.proofs.loops.marked.Goals.{then-marks-node+in_ok-push, else-marks-node}

pub loop-node-preserved : goal.loop-node-preserved
loop-node-preserved c =
    let p = is_marked c.args.marks.now in
    let i = c.loop-node.node in
    let inv = c.loop-node.invariant in
    elim c.if-marks-node.branch [
      | then-marks-node+in_ok-push w ↦ (let next = filter-yes p i w.if-marks-node.true in let pushed = w.in_ok-push.ensures.ok in let is = w.nodes-is in cc)
      | else-marks-node w ↦ (let next = filter-no p i w.if-marks-node.false in let is = w.nodes-is in cc)
    ]

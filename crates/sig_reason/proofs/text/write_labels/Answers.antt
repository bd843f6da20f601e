use Rattle.sig_reason.specs.ReasonText.{label_words}
use Rattle.sig_reason.proofs.TextLaws.{lines_next}
use Rattle.sig_reason.proofs.text.write_labels.Goals as goal

pub loop-fault-preserved : goal.loop-fault-preserved
loop-fault-preserved c = lines_next _ _ _ (label_words c.args.matrix.now c.args.labels.now) c.loop-fault.fault c.loop-fault.invariant c.in_ok-write_label.ensures

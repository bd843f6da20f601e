use Rattle.std.proofs.Common.{◌∙◌, List, ap}
use Rattle.sig_reason.specs.declared.found.Label.{Label}
use Rattle.sig_reason.specs.ReasonText.{reason_bytes}
use Rattle.teams_run.proofs.reasoning.labels_due.Goals as goal

pub returns : goal.returns
returns c = record {
  found = c.args.found.now;
  log_is = c.requires.log;
  possible = c.requires.possible;
  labels = c.args.labelled.now.labels.items;
  called = c.requires.called;
  text_is = c.in_ok-text.ensures ∙ ap (λ (l : List Label). reason_bytes c.args.matrix.now l c.args.mode.now) c.as_slice.ensures.value;
}

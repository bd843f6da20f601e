use Rattle.std.proofs.Common.{ap, ◌∙◌}
use Rattle.sig_lines.specs.Written.{with_lines}
use Rattle.sig_reason.specs.ReasonText.{reason_lines}
use Rattle.sig_reason.proofs.text.reason_text.Goals as goal

pub returns : goal.returns
returns c =
    let lines = reason_lines c.args.matrix.now c.args.labels.now c.args.mode.now in
    c.into_bytes.ensures.lines lines (c.in_ok-write_reason.ensures ∙ ap (λ w. with_lines w lines) c.new-out.ensures)

use Rattle.std.proofs.Common.{ap, ◌∙◌}
use Rattle.sig_lines.specs.Written.{with_lines}
use Rattle.sig_matrix.specs.MatrixText.{matrix_lines}
use Rattle.sig_matrix.proofs.text.matrix_text.Goals as goal

pub returns : goal.returns
returns c =
    let lines = matrix_lines c.args.matrix.now c.args.mode.now in
    c.into_bytes.ensures.lines lines (c.in_ok-write_matrix.ensures ∙ ap (λ w. with_lines w lines) c.new-out.ensures)

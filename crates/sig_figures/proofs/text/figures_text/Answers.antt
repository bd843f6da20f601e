use Rattle.std.proofs.Common.{ap, ◌∙◌}
use Rattle.sig_lines.specs.Written.{with_lines}
use Rattle.sig_figures.specs.FiguresText.{figures_lines}
use Rattle.sig_figures.proofs.text.figures_text.Goals as goal

pub returns : goal.returns
returns c =
    let lines = figures_lines c.args.flat.now c.args.matrix.now c.args.figures.now c.args.mode.now in
    c.into_bytes.ensures.lines lines (c.in_ok-write_figures.ensures ∙ ap (λ w. with_lines w lines) c.new-out.ensures)

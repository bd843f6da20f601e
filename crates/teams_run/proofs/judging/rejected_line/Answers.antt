use Rattle.std.proofs.Common.{◌∷◌, [], ap, ◌∙◌}
use Rattle.sig_lines.specs.Written.{with_lines}
use Rattle.teams_run.specs.Judged.{rejected_words}
use Rattle.teams_run.proofs.judging.rejected_line.Goals as goal

pub returns : goal.returns
returns c =
    let lines = rejected_words c.args.bad ∷ [] in
    c.into_bytes.ensures.lines lines (c.in_ok-write_rejected.ensures ∙ ap (λ w. with_lines w lines) c.new-out.ensures)

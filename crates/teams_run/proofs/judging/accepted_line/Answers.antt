use Rattle.std.proofs.Common.{◌∷◌, [], ap, ◌∙◌}
use Rattle.sig_lines.specs.Written.{with_lines}
use Rattle.teams_run.specs.Judged.{accepted_words}
use Rattle.teams_run.proofs.judging.accepted_line.Goals as goal

pub returns : goal.returns
returns c =
    let lines = accepted_words c.args.report.now ∷ [] in
    c.into_bytes.ensures.lines lines (c.in_ok-write_accepted.ensures ∙ ap (λ w. with_lines w lines) c.new-out.ensures)

use Rattle.std.proofs.Common.{◌∷◌, [], ap, ◌∙◌}
use Rattle.sig_lines.specs.Written.{with_lines}
use Rattle.teams_run.specs.Reasoned.{bad_log_words}
use Rattle.teams_run.proofs.reasoning.bad_log_line.Goals as goal

pub returns : goal.returns
returns c =
    let lines = bad_log_words c.args.bad ∷ [] in
    c.into_bytes.ensures.lines lines (c.in_ok-write_bad_log.ensures ∙ ap (λ w. with_lines w lines) c.new-out.ensures)

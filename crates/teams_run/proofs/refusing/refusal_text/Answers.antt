use Rattle.std.proofs.Common.{◌∷◌, [], ap, ◌∙◌}
use Rattle.sig_lines.specs.Written.{with_lines}
use Rattle.teams_run.specs.RefusalText.{refusal_words}
use Rattle.teams_run.proofs.refusing.refusal_text.Goals as goal

pub returns : goal.returns
returns c =
    let lines = refusal_words c.args.refusal ∷ [] in
    c.into_bytes.ensures.lines lines (c.in_ok-write_refusal.ensures ∙ ap (λ w. with_lines w lines) c.new-out.ensures)

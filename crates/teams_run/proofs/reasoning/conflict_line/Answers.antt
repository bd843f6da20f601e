use Rattle.std.proofs.Common.{◌∷◌, [], ap, ◌∙◌}
use Rattle.sig_lines.specs.Written.{with_lines}
use Rattle.teams_run.specs.Reasoned.{conflict_words}
use Rattle.teams_run.proofs.reasoning.conflict_line.Goals as goal

pub returns : goal.returns
returns c =
    let lines = conflict_words c.args.matrix.now c.args.test ∷ [] in
    c.into_bytes.ensures.lines lines (c.in_ok-write_conflict.ensures ∙ ap (λ w. with_lines w lines) c.new-out.ensures)

use Rattle.std.proofs.Common.{ap, ◌∙◌}
use Rattle.seq_inst.specs.Instances.{problem_of}
use Rattle.sig_lines.specs.Written.{with_lines}
use Rattle.teams_run.specs.Samples.{summary_lines}
use Rattle.teams_run.proofs.sampling.summary_text.Goals as goal

pub returns : goal.returns
returns c =
    let lines = summary_lines c.args.parts c.args.matrix.now (problem_of c.args.inst.now) c.args.outcome.now in
    c.into_bytes.ensures.lines lines (c.in_ok-write_summary.ensures ∙ ap (λ w. with_lines w lines) c.new-out.ensures)

use Rattle.std.proofs.Common.{ap, ◌∙◌}
use Rattle.sig_lines.specs.Written.{Written, with_lines}
use Rattle.seq_inst.specs.Instances.{problem_of}
use Rattle.seq_cert.specs.Text.{report_lines}
use Rattle.seq_cert.specs.OutcomeReport.{report_from}
use Rattle.seq_cert.proofs.WrittenForm.{written_form}
use Rattle.seq_cert.proofs.outcome_report.report_of.Goals as goal

pub returns-clause-text : goal.returns-clause-text
returns-clause-text c =
    let lines = report_lines (report_from (problem_of c.args.inst.now) c.args.outcome.now c.args.labels.now) in
    c.into_bytes.ensures.lines lines (c.in_ok-write_report.ensures.written ∙ ap (λ (w : Written). with_lines w lines) c.new-out.ensures)

pub returns-clause-form : goal.returns-clause-form
returns-clause-form c = λ fits.
    let inst = c.args.inst.now in
    written_form (problem_of inst) c.args.outcome.now c.args.labels.now (inst.stands).sized (inst.stands).weighed (inst.valid).some (inst.valid).tests c.requires.labels c.requires.there c.in_ok-write_report.ensures.numbers fits

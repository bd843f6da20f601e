use Rattle.std.proofs.Common.{◌∙◌, sym, ap, subst}
use Rattle.seq_inst.specs.Instances.{problem_of}
use Rattle.sig_matrix.specs.Detection.{system_of}
use Rattle.sig_classes.specs.Labels.{labels_from}
use Rattle.seq_cert.specs.LabelsOf.{AreLabelsOf}
use Rattle.seq_cert.specs.Printable.{IsPrintable}
use Rattle.seq_cert.specs.ReportForm.{IsReport}
use Rattle.seq_cert.specs.Text.{report_bytes}
use Rattle.seq_cert.specs.OutcomeReport.{report_from}
use Rattle.teams_run.proofs.LabelLaws.{labels-are}
use Rattle.teams_run.proofs.ProblemLaws.{solved_as}
use Rattle.teams_run.proofs.solving.solution_of.Goals as goal

pub report_of-requires-clause-labels : goal.report_of-requires-clause-labels
report_of-requires-clause-labels c =
    let p = problem_of c.args.prepared.now.inst in
    subst (AreLabelsOf p) (sym c.requires.prepared.labels) (labels-are c.args.matrix.now c.args.mode.now p c.requires.prepared.classes)

pub returns : goal.returns
returns c =
    let inst = c.args.prepared.now.inst in
    let p = problem_of inst in
    let o = c.args.outcome.now in
    let labels = labels_from c.args.matrix.now c.args.mode.now in
    let solved = c.outcome_stands.ensures in
    let form = subst (λ l. IsPrintable o l → IsReport (report_from p o l)) c.requires.prepared.labels c.in_ok-text.ensures.form in
    let printable = c.outcomes_print.ensures p labels c.args.groups o inst.valid.told (inst.valid.some, inst.valid.few) c.requires.limit c.requires.printable solved.right in
    let accepted = c.reports_hold.ensures p labels c.args.groups o inst.stands.weighed inst.stands.told solved.right (form printable) in
    let report = c.in_ok-text.ensures.text ∙ ap (λ l. report_bytes (report_from p o l)) c.requires.prepared.labels in
    let shows = c.certified_holds.ensures p labels (report_from p o labels) inst.stands.weighed inst.stands.told accepted.certified in
    solved_as (system_of c.args.matrix.now) labels p c.requires.prepared.problem c.args.groups o c.in_ok-text.text.items solved report (form printable) accepted shows

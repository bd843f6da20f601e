use Rattle.seq_cert.specs.OutcomeReport.{report_from}
use Rattle.seq_shown.proofs.Reports.{report-certified}
use Rattle.seq_shown.proofs.laws.reports_hold.Goals as goal

pub returns : goal.returns
returns c = λ p labels limit o w told right form. record {
  formed = λ line bad. c.one_text.ensures.no_bad (report_from p o labels) line form bad;
  certified = report-certified c.certificate_holds.ensures.complete p labels limit o w told right form.groups;
}

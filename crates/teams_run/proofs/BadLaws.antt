-- The first bad line of a certificate: one that isn't of its form, or else the first that says what isn't so.
use Rattle.std.proofs.Common.{◌≡◌, ℕ, List, inl, inr}
use Rattle.std.specs.Prelude.{Err}
use Rattle.seq_theory.specs.Problem.{Problem}
use Rattle.sig_lines.specs.declared.labels.Labels.{Labels}
use Rattle.seq_inst.specs.declared.outcome.Verdict.{Verdict}
use Rattle.seq_cert.specs.declared.report.Report.{Report}
use Rattle.seq_cert.specs.declared.fault.ReportFault.{ReportFault}
use Rattle.seq_cert.specs.declared.fault.ReportFault.TheVariants.{Bad, OutOfMemory}
use Rattle.seq_cert.specs.Places.{TellsFirstBad}
use Rattle.seq_cert.specs.ReportForm.{IsReport}
use Rattle.seq_cert.specs.Text.{report_bytes}
use Rattle.seq_check.specs.Looks.{first_bad}
use Rattle.seq_check.specs.Lines.{looks}
use Rattle.seq_check.specs.Shown.{Judges}
use Rattle.teams_run.specs.Judged.{TellsBad}

pub bad_form : (p : Problem) (labels : Labels) (cert : List ℕ) (fault : ReportFault) → TellsFirstBad cert fault → TellsBad p labels cert fault
bad_form p labels cert (Bad bad) tells = inl tells
bad_form p labels cert OutOfMemory tells = tt

pub bad_look : (p : Problem) (labels : Labels) (cert : List ℕ) (report : Report) (verdict : Verdict) (fault : ReportFault) → IsReport report → cert ≡ report_bytes report
    → Judges verdict (first_bad (looks p labels report)) (Err fault) → TellsBad p labels cert fault
bad_look p labels cert report verdict (Bad bad) form bytes first = inr (report, form, bytes, first)
bad_look p labels cert report verdict OutOfMemory form bytes first = tt

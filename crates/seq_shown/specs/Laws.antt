-- What is proved of the report of a right outcome.
use Rattle.std.specs.Prelude.{◌≡◌, ◌≤◌, ℕ, true, List, ◌++◌, length}
use Rattle.std.specs.List.{All}
use Rattle.seq_theory.specs.Problem.{Problem, IsSized, IsWeighed, AreTold}
use Rattle.seq_theory.specs.Tree.{AsksOnly}
use Rattle.sig_types.specs.NameText.{is_name}
use Rattle.sig_lines.specs.declared.labels.Labels.{Labels}
use Rattle.sig_lines.specs.declared.labels.StateLabel.{StateLabel}
use Rattle.sig_lines.specs.declared.labels.TestLabel.{TestLabel}
use Rattle.seq_inst.specs.Trees.{tree_of}
use Rattle.seq_inst.specs.declared.outcome.Outcome.{Outcome}
use Rattle.seq_finish.specs.Outcomes.{IsRightOutcome}
use Rattle.seq_cert.specs.LabelsOf.{AreLabelsOf}
use Rattle.seq_cert.specs.LineForms.{is_label, is_mode}
use Rattle.seq_cert.specs.ReportForm.{InRange, IsReport}
use Rattle.seq_cert.specs.OutcomeReport.{report_from}
use Rattle.seq_cert.specs.Printable.{IsPrintable, FitWords}
use Rattle.seq_cert.specs.Places.{IsFirstBadLine}
use Rattle.seq_cert.specs.Text.{report_bytes}
use Rattle.seq_cert.specs.declared.report.Report.{Report}
use Rattle.seq_check.specs.Shown.{IsCertified}

-- labels that a report can show: the mode is a name or `-`, each state and each test has a label of one or more bytes from
-- 0x21 to 0x7e, and there are no more states than a report has room for
pub record ArePrintable (labels : Labels) : Type 0 where
  pub mode : is_mode labels.mode ≡ true
  pub state_labels : All (λ (s : StateLabel). is_label s.label ≡ true) labels.states
  pub test_labels : All (λ (t : TestLabel). is_label t.label ≡ true) labels.tests
  pub states : length labels.states ≤ 4097

-- no line of the report's text is bad, in its form or in what it says
pub record IsAccepted (p : Problem) (labels : Labels) (r : Report) : Type 0 where
  pub formed : (line : ℕ) → IsFirstBadLine (report_bytes r) line → ⊥
  pub certified : IsCertified p labels r

-- the checker accepts the report of a right outcome, where it has the form of a report
abbrev pub ReportsHold : Type 0
ReportsHold = (p : Problem) (labels : Labels) (limit : ℕ) (o : Outcome) → IsWeighed p → AreTold p → IsRightOutcome p limit o
    → IsReport (report_from p o labels) → IsAccepted p labels (report_from p o labels)

-- a right outcome is printable where its labels are
abbrev pub OutcomesPrint : Type 0
OutcomesPrint = (p : Problem) (labels : Labels) (limit : ℕ) (o : Outcome) → AreTold p → InRange 1 512 p.classes → InRange 1 32768 limit
    → ArePrintable labels → IsRightOutcome p limit o → IsPrintable o labels

-- What holds over the problem of an instance holds over the one problem of its system's ambiguity groups, since they are the
-- same.
use Rattle.std.proofs.Common.{◌≡◌, ◌∙◌, ℕ, ◌≤◌, List, length, refl, ap, subst}
use Rattle.seq_theory.specs.Problem.{Problem}
use Rattle.seq_theory.specs.States.{System, firsts, IsOfClasses, problem_of_classes}
use Rattle.seq_inst.specs.declared.outcome.Outcome.{Outcome}
use Rattle.seq_inst.specs.declared.outcome.Verdict.{Verdict}
use Rattle.sig_lines.specs.declared.labels.Labels.{Labels}
use Rattle.seq_cert.specs.declared.report.Report.{Report}
use Rattle.seq_cert.specs.declared.fault.BadLine.{BadLine}
use Rattle.seq_cert.specs.ReportForm.{IsReport}
use Rattle.seq_cert.specs.Text.{report_bytes}
use Rattle.seq_cert.specs.OutcomeReport.{report_from}
use Rattle.seq_check.specs.Shown.{Shows}
use Rattle.seq_shown.specs.Laws.{IsAccepted as IsReadGood}
use Rattle.teams_run.specs.Judged.{IsAccepted, IsFirstBad, IsGood, IsRejected, ShowsStates, accepted_line, rejected_line}
use Rattle.teams_run.specs.Solved.{IsSolution, IsSolved}

module _ (sys : System) (labels : Labels) (p : Problem) (is : p ≡ problem_of_classes sys) where
  pub solved_as : (groups : ℕ) (outcome : Outcome) (text : List ℕ) → IsSolved sys p groups outcome → text ≡ report_bytes (report_from p outcome labels)
      → IsReport (report_from p outcome labels) → IsReadGood p labels (report_from p outcome labels) → Shows p (report_from p outcome labels) → IsSolution sys labels groups outcome.verdict text
  solved_as groups outcome text solved report form accepted shows = record {
    outcome = outcome;
    solved = subst (λ q. IsSolved sys q groups outcome) is solved;
    verdict_is = refl;
    report = report ∙ ap (λ q. report_bytes (report_from q outcome labels)) is;
    form = subst (λ q. IsReport (report_from q outcome labels)) is form;
    accepted = subst (λ q. IsReadGood q labels (report_from q outcome labels)) is accepted;
    shows = subst (λ q. Shows q (report_from q outcome labels)) is shows;
  }

  pub accepted_as : (cert text : List ℕ) (report : Report) → length (firsts sys) ≤ 512 → IsOfClasses sys p → IsGood p labels cert report → ShowsStates sys p report → text ≡ accepted_line report → IsAccepted sys labels cert text
  accepted_as cert text report few classes good shows line = record {
    few = few;
    classes = subst (IsOfClasses sys) is classes;
    report = report;
    good = subst (λ q. IsGood q labels cert report) is good;
    shows = subst (λ q. ShowsStates sys q report) is shows;
    line = line;
  }

  pub rejected_as : (cert text : List ℕ) (bad : BadLine) → length (firsts sys) ≤ 512 → IsOfClasses sys p → IsFirstBad p labels cert bad → text ≡ rejected_line bad → IsRejected sys labels cert text
  rejected_as cert text bad few classes first line = record {
    few = few;
    classes = subst (IsOfClasses sys) is classes;
    bad = bad;
    first = subst (λ q. IsFirstBad q labels cert bad) is first;
    line = line;
  }

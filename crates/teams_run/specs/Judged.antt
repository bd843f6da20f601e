-- What the check of a certificate says of a system.
use Rattle.std.specs.Prelude.{◌≡◌, ⊤, ◌⊎◌, ℕ, ◌≤◌, List, [], ◌∷◌, length, codes, decimal, Some}
use Rattle.seq_theory.specs.Problem.{Problem, all_classes}
use Rattle.seq_theory.specs.Tree.{Tree}
use Rattle.seq_theory.specs.States.{System, firsts, IsOfClasses, problem_of_classes}
use Rattle.seq_inst.specs.declared.outcome.Verdict.TheVariants.{Optimal}
use Rattle.seq_inst.specs.Verdicts.{verdict_word}
use Rattle.sig_lines.specs.Pieces.{Words, bytes_of}
use Rattle.sig_lines.specs.declared.labels.Labels.{Labels}
use Rattle.seq_cert.specs.declared.report.Report.{Report}
use Rattle.seq_cert.specs.declared.fault.BadLine.{BadLine}
use Rattle.seq_cert.specs.declared.fault.BadCode.TheVariants.{C01}
use Rattle.seq_cert.specs.declared.fault.ReportFault.{ReportFault}
use Rattle.seq_cert.specs.declared.fault.ReportFault.TheVariants.{Bad, OutOfMemory}
use Rattle.seq_cert.specs.BadCodes.{bad_word}
use Rattle.seq_cert.specs.Text.{report_bytes}
use Rattle.seq_cert.specs.ReportForm.{IsReport}
use Rattle.seq_cert.specs.Places.{IsFirstBadLine}
use Rattle.seq_cert.specs.TreeLines.{tree_lines}
use Rattle.seq_check.specs.Looks.{first_bad}
use Rattle.seq_check.specs.Lines.{looks}
use Rattle.seq_check.specs.Shown.{IsCertified, Shows}
use Rattle.teams_run.specs.declared.status.Status.{Status}
use Rattle.teams_run.specs.declared.status.Status.TheVariants.{Done, Rejected}
use Rattle.teams_run.specs.Solved.{IsRightFor, IsLeastFor, state_cost}

-- the first bad line of some bytes: the first that isn't of its form, with C01; where each is, the first that says of the
-- system what isn't so, with the lowest code that it breaks
abbrev pub IsFirstBad : Problem → Labels → List ℕ → BadLine → Type 0
IsFirstBad p labels cert bad =
    ((bad.code ≡ C01) × IsFirstBadLine cert bad.line)
    ⊎ ((report : Report) × IsReport report × (cert ≡ report_bytes report) × (first_bad (looks p labels report) ≡ Some bad))

-- why a certificate is not accepted; want of memory may come at any time
abbrev pub TellsBad : Problem → Labels → List ℕ → ReportFault → Type 0
TellsBad p labels cert (Bad bad) = IsFirstBad p labels cert bad
TellsBad p labels cert OutOfMemory = ⊤

-- the bytes are a report without a bad line, and so it shows what it says of the ambiguity groups
pub record IsGood (p : Problem) (labels : Labels) (cert : List ℕ) (report : Report) : Type 0 where
  pub form : IsReport report
  pub bytes : cert ≡ report_bytes report
  pub certified : IsCertified p labels report
  pub shows : Shows p report

-- the report's tree is that of a strategy that is right for all states and costs the report's cost; the least cost lies
-- between the report's low and its cost, and is the cost where the report says optimal
pub record ShowsStates (sys : System) (p : Problem) (report : Report) : Type 0 where
  pub tree : Tree
  pub drawn : report.tree ≡ tree_lines p tree (all_classes p)
  pub right : IsRightFor sys tree
  pub costs : report.cost ≡ state_cost sys tree
  pub least : ℕ
  pub is_least : IsLeastFor sys least
  pub low : report.low ≤ least
  pub high : least ≤ report.cost
  pub optimal : report.verdict ≡ Optimal → report.cost ≡ least

-- accepted VERDICT cost C low L
abbrev pub accepted_words : Report → Words
accepted_words report = codes "accepted" ∷ verdict_word report.verdict ∷ codes "cost" ∷ decimal report.cost ∷ codes "low" ∷ decimal report.low ∷ []

abbrev pub accepted_line : Report → List ℕ
accepted_line report = bytes_of (accepted_words report ∷ [])

-- rejected line N CODE
abbrev pub rejected_words : BadLine → Words
rejected_words bad = codes "rejected" ∷ codes "line" ∷ decimal bad.line ∷ bad_word bad.code ∷ []

abbrev pub rejected_line : BadLine → List ℕ
rejected_line bad = bytes_of (rejected_words bad ∷ [])

-- the certificate is accepted for the one problem of the system's ambiguity groups, of which there are at most 512, and shows
-- a right strategy, its cost, and a low that no right strategy undercuts
pub record IsAccepted (sys : System) (labels : Labels) (cert text : List ℕ) : Type 0 where
  pub few : length (firsts sys) ≤ 512
  pub classes : IsOfClasses sys (problem_of_classes sys)
  pub report : Report
  pub good : IsGood (problem_of_classes sys) labels cert report
  pub shows : ShowsStates sys (problem_of_classes sys) report
  pub line : text ≡ accepted_line report

-- the system has at most 512 ambiguity groups, and the certificate has a first bad line for their one problem, which the
-- text names
pub record IsRejected (sys : System) (labels : Labels) (cert text : List ℕ) : Type 0 where
  pub few : length (firsts sys) ≤ 512
  pub classes : IsOfClasses sys (problem_of_classes sys)
  pub bad : BadLine
  pub first : IsFirstBad (problem_of_classes sys) labels cert bad
  pub line : text ≡ rejected_line bad

abbrev pub IsJudgement : System → Labels → List ℕ → Status → List ℕ → Type 0
IsJudgement sys labels cert Done text = IsAccepted sys labels cert text
IsJudgement sys labels cert Rejected text = IsRejected sys labels cert text
IsJudgement sys labels cert other text = ⊥

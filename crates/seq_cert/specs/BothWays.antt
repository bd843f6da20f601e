-- The form of a report, both ways.
use Rattle.std.specs.Prelude.{◌≡◌, ◌⊎◌, ℕ, List}
use Rattle.seq_cert.specs.declared.report.Report.{Report}
use Rattle.seq_cert.specs.Text.{report_bytes}
use Rattle.seq_cert.specs.ReportForm.{IsReport}
use Rattle.seq_cert.specs.Places.{IsFirstBadLine}

-- bytes are the text of a report, or have a first bad line
abbrev pub IsToldOrBad : Type 0
IsToldOrBad = (bytes : List ℕ) → ((r : Report) × IsReport r × (bytes ≡ report_bytes r)) ⊎ ((line : ℕ) × IsFirstBadLine bytes line)

-- the text of a report has no bad line
abbrev pub HasNoBad : Type 0
HasNoBad = (r : Report) (line : ℕ) → IsReport r → IsFirstBadLine (report_bytes r) line → ⊥

-- no line but one is the first bad one
abbrev pub HasOneFirst : Type 0
HasOneFirst = (bytes : List ℕ) (line other : ℕ) → IsFirstBadLine bytes line → IsFirstBadLine bytes other → line ≡ other

-- bytes are the text of at most one report
abbrev pub IsOne : Type 0
IsOne = (r s : Report) → IsReport r → IsReport s → report_bytes r ≡ report_bytes s → r ≡ s

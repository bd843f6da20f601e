-- What a log of tests says, line by line, and its first bad line.
use Rattle.std.specs.Prelude.{◌≡◌, ◌≢◌, ◌⊎◌, ℕ, ◌+◌, ◌<◌, nat_eq, Bool, true, false, cond, codes, List, [], ◌∷◌, ◌++◌, length, take, find, slice_index_or, Option, Some, None, Result, Ok, Err}
use Rattle.std.specs.List.{list_any}
use Rattle.std.specs.Str.{bytes_eq}
use Rattle.seq_theory.specs.Problem.{count_up}
use Rattle.sig_types.specs.LabelText.{is_label}
use Rattle.sig_lines.specs.Pieces.{Words, words_in, lines_in, tail_in, two}
use Rattle.sig_matrix.specs.declared.matrix.Matrix.{Matrix}
use Rattle.sig_matrix.specs.Detection.{no_label}
use Rattle.sig_reason.specs.declared.found.Finding.{Finding}
use Rattle.sig_reason.specs.declared.log_line.LogCode.{LogCode}
use Rattle.sig_reason.specs.declared.log_line.LogCode.TheVariants.{L01, L02, L03}
use Rattle.sig_reason.specs.declared.log.BadLogLine.{BadLogLine}
use Rattle.sig_reason.specs.declared.log.LogFault.{LogFault}
use Rattle.sig_reason.specs.declared.log.LogFault.TheVariants.{BadLine, OutOfMemory}

-- whether a test failed, as a word says: `fail` or `pass`
abbrev pub outcome_in : List ℕ → Option Bool
outcome_in word = cond (bytes_eq word (codes "fail")) (Some true) (cond (bytes_eq word (codes "pass")) (Some false) None)

-- an outcome and a label
abbrev pub with_label : List ℕ → Option Bool → Option (Bool × List ℕ)
with_label label None = None
with_label label (Some failed) = cond (is_label label) (Some (failed, label)) None

abbrev pub said_by_two : Option (List ℕ × List ℕ) → Option (Bool × List ℕ)
said_by_two None = None
said_by_two (Some x) = with_label x.1 (outcome_in x.0)

-- what the words of a line say: they are two, an outcome and a label
abbrev pub said_in : Words → Option (Bool × List ℕ)
said_in words = said_by_two (two words)

-- the first test of the matrix that has the label
abbrev pub test_named : Matrix → List ℕ → Option ℕ
test_named matrix label = find (λ t. bytes_eq (slice_index_or matrix.tests t no_label).label label) (count_up 0 (length matrix.tests))

-- a test that no finding has yet
abbrev pub newly_found : List Finding → Bool → Option ℕ → Result Finding LogCode
newly_found found failed None = Err L02
newly_found found failed (Some test) = cond (list_any (λ (x : Finding). nat_eq x.test test) found) (Err L03) (Ok (record { test = test; failed = failed }))

abbrev pub finding_said : Matrix → List Finding → Option (Bool × List ℕ) → Result Finding LogCode
finding_said matrix found None = Err L01
finding_said matrix found (Some x) = newly_found found x.0 (test_named matrix x.1)

-- what a line says after the findings of the lines before it, or the lowest code that it breaks
abbrev pub finding_in : Matrix → List Finding → List ℕ → Result Finding LogCode
finding_in matrix found line = finding_said matrix found (said_in (words_in line))

-- what stands past the last finding
abbrev pub no_finding : Finding
no_finding = record { test = 0; failed = false }

-- each line says its finding, after the findings of the lines before it
pub record AreSaid (matrix : Matrix) (lines : List (List ℕ)) (found : List Finding) : Type 0 where
  pub long : length found ≡ length lines
  pub each : (k : ℕ) → k < length lines → finding_in matrix (take k found) (slice_index_or lines k []) ≡ Ok (slice_index_or found k no_finding)

-- the bytes are a log of these findings: whole lines, which say them
pub record IsLog (matrix : Matrix) (bytes : List ℕ) (found : List Finding) : Type 0 where
  pub said : AreSaid matrix (lines_in bytes) found
  pub whole : tail_in bytes ≡ []

-- after lines that say these findings the next one breaks the code; bytes without LF at the end are a line of no form
abbrev pub BreaksAfter : Matrix → List Finding → List (List ℕ) → List ℕ → LogCode → Type 0
BreaksAfter matrix found lines tail code = ((line : List ℕ) × (rest : List (List ℕ)) × (lines ≡ line ∷ rest) × (finding_in matrix found line ≡ Err code)) ⊎ ((lines ≡ []) × (tail ≢ []) × (code ≡ L01))

-- the first bad line, counted from 1: each line before it says its finding, and it breaks the code
pub record IsFirstBadLine (matrix : Matrix) (bytes : List ℕ) (bad : BadLogLine) : Type 0 where
  pub before : List (List ℕ)
  pub rest : List (List ℕ)
  pub found : List Finding
  pub lines : lines_in bytes ≡ before ++ rest
  pub said : AreSaid matrix before found
  pub number : bad.line ≡ length before + 1
  pub breaks : BreaksAfter matrix found rest (tail_in bytes) bad.code

-- why bytes aren't read as a log; want of memory says nothing
abbrev pub IsNoLog : Matrix → List ℕ → LogFault → Type 0
IsNoLog matrix bytes (BadLine bad) = IsFirstBadLine matrix bytes bad
IsNoLog matrix bytes OutOfMemory = Unit {0}

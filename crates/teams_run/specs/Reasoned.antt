-- What a log says of the faults of a model: what each is called, or the test that no set of faults explains, or the first bad line.
use Rattle.std.specs.Prelude.{◌≡◌, ℕ, List, [], ◌∷◌, codes, decimal, slice_index_or}
use Rattle.sig_lines.specs.Pieces.{Words, bytes_of}
use Rattle.sig_matrix.specs.declared.matrix.Matrix.{Matrix}
use Rattle.sig_matrix.specs.Detection.{no_label}
use Rattle.sig_reason.specs.declared.found.Finding.{Finding}
use Rattle.sig_reason.specs.declared.found.Label.{Label}
use Rattle.sig_reason.specs.declared.log.BadLogLine.{BadLogLine}
use Rattle.sig_reason.specs.FaultSets.{IsPossible}
use Rattle.sig_reason.specs.Labelling.{AreCalled, IsConflict, case_of}
use Rattle.sig_reason.specs.Log.{IsLog, IsFirstBadLine}
use Rattle.sig_reason.specs.ReasonText.{reason_bytes}
use Rattle.sig_reason.specs.Words.{code_word}
use Rattle.teams_run.specs.declared.status.Status.{Status}
use Rattle.teams_run.specs.declared.status.Status.TheVariants.{Done, Rejected, Conflict}

-- some set of faults explains what the log says was found, and the text says what each fault is called for it
pub record IsLabelled (matrix : Matrix) (mode log text : List ℕ) : Type 0 where
  pub found : List Finding
  pub log_is : IsLog matrix log found
  pub possible : IsPossible (case_of matrix found)
  pub labels : List Label
  pub called : AreCalled (case_of matrix found) labels
  pub text_is : text ≡ reason_bytes matrix labels mode

-- conflict LABEL
abbrev pub conflict_words : Matrix → ℕ → Words
conflict_words matrix test = codes "conflict" ∷ (slice_index_or matrix.tests test no_label).label ∷ []

abbrev pub conflict_line : Matrix → ℕ → List ℕ
conflict_line matrix test = bytes_of (conflict_words matrix test ∷ [])

-- no set of faults explains what the log says was found, and the text names the first test that shows it
pub record IsInConflict (matrix : Matrix) (log text : List ℕ) : Type 0 where
  pub found : List Finding
  pub log_is : IsLog matrix log found
  pub test : ℕ
  pub conflict : IsConflict (case_of matrix found) test
  pub line : text ≡ conflict_line matrix test

-- rejected line N CODE
abbrev pub bad_log_words : BadLogLine → Words
bad_log_words bad = codes "rejected" ∷ codes "line" ∷ decimal bad.line ∷ code_word bad.code ∷ []

abbrev pub bad_log_line : BadLogLine → List ℕ
bad_log_line bad = bytes_of (bad_log_words bad ∷ [])

-- the log has a first bad line, which the text names
pub record IsBadLog (matrix : Matrix) (log text : List ℕ) : Type 0 where
  pub bad : BadLogLine
  pub first : IsFirstBadLine matrix log bad
  pub line : text ≡ bad_log_line bad

abbrev pub IsReasoning : Matrix → List ℕ → List ℕ → Status → List ℕ → Type 0
IsReasoning matrix mode log Done text = IsLabelled matrix mode log text
IsReasoning matrix mode log Conflict text = IsInConflict matrix log text
IsReasoning matrix mode log Rejected text = IsBadLog matrix log text
IsReasoning matrix mode log other text = ⊥

-- One step of reading a log: the next line says a finding, or nothing is left, or it is bad.
use Rattle.std.specs.Prelude.{◌≡◌, ℕ, List, [], ◌∷◌, Ok}
use Rattle.sig_matrix.specs.declared.matrix.Matrix.{Matrix}
use Rattle.sig_reason.specs.declared.found.Finding.{Finding}
use Rattle.sig_reason.specs.declared.log.BadLogLine.{BadLogLine}
use Rattle.sig_reason.specs.Log.{finding_in, BreaksAfter}

-- no line is left, and nothing after the last
pub record IsAtEnd (lines : List (List ℕ)) (tail : List ℕ) : Type 0 where
  pub lines_end : lines ≡ []
  pub tail_ends : tail ≡ []

-- the first of the lines says the finding, and the others are left
pub record IsNext (matrix : Matrix) (found : List Finding) (lines : List (List ℕ)) (x : Finding) (rest : List (List ℕ)) : Type 0 where
  pub line : List ℕ
  pub first : lines ≡ line ∷ rest
  pub said : finding_in matrix found line ≡ Ok x

-- the line with this number is bad
pub record IsBadHere (matrix : Matrix) (found : List Finding) (number : ℕ) (lines : List (List ℕ)) (tail : List ℕ) (bad : BadLogLine) : Type 0 where
  pub line : bad.line ≡ number
  pub breaks : BreaksAfter matrix found lines tail bad.code

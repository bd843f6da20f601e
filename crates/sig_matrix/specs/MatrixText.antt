-- The matrix text: what it says, line by line, each line a list of words.
use Rattle.std.specs.Prelude.{ℕ, nat_eq, Bool, cond, codes, decimal, List, [], ◌∷◌, ◌++◌, map, length, slice_index_or}
use Rattle.sig_lines.specs.Pieces.{Words, number_words, test_words, bytes_of}
use Rattle.sig_lines.specs.declared.labels.TestLabel.{TestLabel}
use Rattle.seq_theory.specs.Problem.{count_up}
use Rattle.seq_theory.specs.States.{row}
use Rattle.sig_matrix.specs.declared.matrix.Matrix.{Matrix}
use Rattle.sig_matrix.specs.Detection.{system_of, state_count, state_weight, state_name, no_label}

-- a test's column: its cost and its label
abbrev pub column : Matrix → ℕ → TestLabel
column matrix t = slice_index_or matrix.tests t no_label

-- `1` for a test that fails, else `0`
abbrev pub outcome : Bool → ℕ
outcome fails = cond fails 49 48

-- the row of a state, one character for each test, or `-` without tests
abbrev pub row_word : Matrix → ℕ → List ℕ
row_word matrix s = cond (nat_eq (length matrix.tests) 0) (codes "-") (map outcome (row (system_of matrix) s))

-- a state: its weight, its row, its label
abbrev pub state_words : Matrix → ℕ → Words
state_words matrix s = codes "state" ∷ decimal (state_weight matrix s) ∷ row_word matrix s ∷ state_name matrix s ∷ []

-- the lines of the text
abbrev pub matrix_lines : Matrix → List ℕ → List Words
matrix_lines matrix mode =
    (codes "teams" ∷ codes "matrix" ∷ codes "1" ∷ [])
    ∷ (codes "mode" ∷ mode ∷ [])
    ∷ number_words (codes "tests") (length matrix.tests)
    ∷ map (λ t. test_words t (column matrix t)) (count_up 0 (length matrix.tests))
    ++ number_words (codes "states") (state_count matrix)
    ∷ map (state_words matrix) (count_up 0 (state_count matrix))
    ++ (codes "end" ∷ [])
    ∷ []

-- the bytes of the text
abbrev pub matrix_bytes : Matrix → List ℕ → List ℕ
matrix_bytes matrix mode = bytes_of (matrix_lines matrix mode)

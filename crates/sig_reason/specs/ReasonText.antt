-- The text that says what each fault is called: its lines, each a list of words.
use Rattle.std.specs.Prelude.{ℕ, codes, List, [], ◌∷◌, ◌++◌, map, length, slice_index_or}
use Rattle.sig_lines.specs.Pieces.{Words, number_words, bytes_of}
use Rattle.seq_theory.specs.Problem.{count_up}
use Rattle.sig_matrix.specs.declared.matrix.Matrix.{Matrix}
use Rattle.sig_matrix.specs.Detection.{no_row}
use Rattle.sig_reason.specs.declared.found.Label.{Label}
use Rattle.sig_reason.specs.declared.found.Label.TheVariants.{Unknown}
use Rattle.sig_reason.specs.Words.{label_word}

-- what a fault is called, and its own label
abbrev pub label_words : Matrix → List Label → ℕ → Words
label_words matrix labels fault = label_word (slice_index_or labels fault Unknown) ∷ (slice_index_or matrix.faults fault no_row).label ∷ []

-- the lines of the text
abbrev pub reason_lines : Matrix → List Label → List ℕ → List Words
reason_lines matrix labels mode =
    (codes "teams" ∷ codes "reason" ∷ codes "1" ∷ [])
    ∷ (codes "mode" ∷ mode ∷ [])
    ∷ number_words (codes "faults") (length matrix.faults)
    ∷ map (label_words matrix labels) (count_up 0 (length matrix.faults))
    ++ (codes "end" ∷ [])
    ∷ []

-- the bytes of the text
abbrev pub reason_bytes : Matrix → List Label → List ℕ → List ℕ
reason_bytes matrix labels mode = bytes_of (reason_lines matrix labels mode)

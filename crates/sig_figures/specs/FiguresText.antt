-- The figures text: what it says, line by line, each line a list of words.
use Rattle.std.specs.Prelude.{ℕ, codes, decimal, List, [], ◌∷◌, ◌++◌, map, slice_index_or}
use Rattle.sig_lines.specs.Pieces.{Words, number_words, bytes_of}
use Rattle.sig_flat.specs.declared.flat.Flat.{Flat}
use Rattle.sig_reach.specs.Paths.{no_node}
use Rattle.sig_matrix.specs.declared.matrix.Matrix.{Matrix}
use Rattle.sig_matrix.specs.Detection.{no_row, no_label}
use Rattle.sig_figures.specs.declared.summary.Figures.{Figures}
use Rattle.sig_figures.specs.declared.summary.SizeCount.{SizeCount}
use Rattle.sig_figures.specs.declared.summary.EqualTest.{EqualTest}

-- the labels of a fault and of a test, and the path of a node
abbrev pub fault_name : Matrix → ℕ → List ℕ
fault_name matrix fault = (slice_index_or matrix.faults fault no_row).label

abbrev pub test_name : Matrix → ℕ → List ℕ
test_name matrix test = (slice_index_or matrix.tests test no_label).label

abbrev pub node_name : Flat → ℕ → List ℕ
node_name flat node = (slice_index_or flat.nodes node no_node).path

-- the title, and the mode
abbrev pub title_lines : List ℕ → List Words
title_lines mode = (codes "teams" ∷ codes "figures" ∷ codes "1" ∷ []) ∷ (codes "mode" ∷ mode ∷ []) ∷ []

-- the weight of the faults that are detected, of the weight of all faults
abbrev pub detected_words : ℕ → ℕ → Words
detected_words detected all = codes "detected" ∷ decimal detected ∷ codes "of" ∷ decimal all ∷ []

-- the numbers of faults, tests and ambiguity groups, and the weights
abbrev pub count_lines : Figures → List Words
count_lines figures =
    number_words (codes "faults") figures.faults
    ∷ number_words (codes "tests") figures.tests
    ∷ detected_words figures.detected_weight figures.fault_weight
    ∷ number_words (codes "classes") figures.classes
    ∷ []

-- a number of states, and how many faults lie in ambiguity groups of so many
abbrev pub size_words : SizeCount → Words
size_words size = codes "size" ∷ decimal size.states ∷ decimal size.faults ∷ []

-- a fault that no test detects
abbrev pub undetected_words : Matrix → ℕ → Words
undetected_words matrix fault = codes "undetected" ∷ fault_name matrix fault ∷ []

-- a test that detects no fault
abbrev pub blind_words : Matrix → ℕ → Words
blind_words matrix test = codes "blind" ∷ test_name matrix test ∷ []

-- a test, and the first that detects the same faults
abbrev pub equal_words : Matrix → EqualTest → Words
equal_words matrix pair = codes "equal" ∷ test_name matrix pair.test ∷ test_name matrix pair.first ∷ []

-- a node on a loop
abbrev pub loop_words : Flat → ℕ → Words
loop_words flat node = codes "loop" ∷ node_name flat node ∷ []

-- the lines of the text
abbrev pub figures_lines : Flat → Matrix → Figures → List ℕ → List Words
figures_lines flat matrix figures mode =
    title_lines mode
    ++ (count_lines figures
    ++ (map size_words figures.sizes
    ++ (map (undetected_words matrix) figures.undetected
    ++ (map (blind_words matrix) figures.blind
    ++ (map (equal_words matrix) figures.equal
    ++ (map (loop_words flat) figures.looped
    ++ (codes "end" ∷ []) ∷ []))))))

-- the bytes of the text
abbrev pub figures_bytes : Flat → Matrix → Figures → List ℕ → List ℕ
figures_bytes flat matrix figures mode = bytes_of (figures_lines flat matrix figures mode)

-- Looks at what a report says of the model: its mode, counts, weights and labels.
use Rattle.std.specs.Prelude.{ℕ, ◌+◌, Bool, false, ◌&&◌, nat_eq, nat_lt, List, [], ◌∷◌, ◌++◌, length, filter}
use Rattle.seq_theory.specs.Problem.{Problem, all_classes, weight_of}
use Rattle.std.specs.Str.{bytes_eq}
use Rattle.sig_lines.specs.declared.labels.Labels.{Labels}
use Rattle.sig_lines.specs.declared.labels.StateLabel.{StateLabel}
use Rattle.sig_lines.specs.declared.labels.TestLabel.{TestLabel}
use Rattle.seq_cert.specs.OutcomeReport.{is_of}
use Rattle.seq_cert.specs.declared.fault.BadCode.TheVariants.{C02}
use Rattle.seq_cert.specs.declared.report.Report.{Report}
use Rattle.seq_cert.specs.declared.report.ClassLine.{ClassLine}
use Rattle.seq_cert.specs.declared.report.StateLine.{StateLine}
use Rattle.seq_check.specs.Looks.{Look, look}

-- the mode and the counts
unfoldable pub model_looks : Problem → Labels → Report → List Look
model_looks p labels r =
    look 2 C02 (bytes_eq r.mode labels.mode)
    ∷ look 3 C02 (nat_eq r.states (length labels.states))
    ∷ look 4 C02 (nat_eq r.classes p.classes)
    ∷ look 5 C02 (nat_eq r.tests p.tests)
    ∷ look 6 C02 (nat_eq r.weight (weight_of p (all_classes p)))
    ∷ []

-- whether the first item, if there is one, has the line
abbrev pub has_line : {A B : Type 0} → (A → B → Bool) → List A → B → Bool
has_line same [] line = false
has_line same (x ∷ xs) line = same x line

abbrev pub rest : {A : Type 0} → List A → List A
rest [] = []
rest (x ∷ xs) = xs

-- lines beside items, from a line on
abbrev pub side_looks : {A B : Type 0} → (A → B → Bool) → ℕ → List A → List B → List Look
side_looks same n items [] = []
side_looks same n items (line ∷ lines) = look n C02 (has_line same items line) ∷ side_looks same (n + 1) (rest items) lines

-- whether the line is that of the state
abbrev pub is_state : StateLabel → StateLine → Bool
is_state s line = nat_eq line.weight s.weight && bytes_eq line.label s.label

-- whether the line is that of the test
abbrev pub is_test : TestLabel → TestLabel → Bool
is_test t line = nat_eq line.cost t.cost && bytes_eq line.label t.label

-- a class line with its state lines, from a line on
unfoldable pub class_look : Problem → List StateLabel → ℕ → ℕ → ClassLine → List Look
class_look p states n c line =
    look n C02 ((nat_lt c p.classes && nat_eq line.weight (p.weight c)) && nat_eq (length line.states) (length (filter (is_of c) states)))
    ∷ side_looks is_state (n + 1) (filter (is_of c) states) line.states

-- class lines with their state lines, the first of class c, from a line on
abbrev pub class_looks : Problem → List StateLabel → ℕ → ℕ → List ClassLine → List Look
class_looks p states n c [] = []
class_looks p states n c (line ∷ lines) = class_look p states n c line ++ class_looks p states (n + (1 + length line.states)) (c + 1) lines

-- test lines beside the tests, from a line on
unfoldable pub test_looks : ℕ → List TestLabel → List TestLabel → List Look
test_looks n tests lines = side_looks is_test n tests lines

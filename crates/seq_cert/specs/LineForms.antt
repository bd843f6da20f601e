-- The form of each line of a report: what its words say, where they are of that form.
use Rattle.std.specs.Prelude.{ℕ, ◌-◌, ◌^◌, Bool, false, cond, ◌&&◌, ◌||◌, not, nat_eq, nat_le, List, [], ◌∷◌, length, decimal, codes, Option, Some, None}
use Rattle.std.specs.List.{list_all}
use Rattle.std.specs.Option.{option_map}
use Rattle.sig_types.specs.NameText.{is_name}
use Rattle.sig_lines.specs.Pieces.{first_of, one, two, three, four}
use Rattle.std.specs.Str.{bytes_eq}
use Rattle.sig_lines.specs.Numbers.{number_in, hex_in}
use Rattle.sig_lines.specs.declared.labels.TestLabel.{TestLabel}
use Rattle.seq_inst.specs.declared.outcome.Verdict.{Verdict}
use Rattle.seq_inst.specs.declared.outcome.Verdict.TheVariants.{Optimal, Bounded}
use Rattle.seq_cert.specs.declared.report.StateLine.{StateLine}
use Rattle.seq_cert.specs.declared.report.TreeLine.{TreeLine}
use Rattle.seq_cert.specs.declared.report.TreeLine.TheVariants.{Ask, Leaf}
use Rattle.seq_cert.specs.declared.report.GroupLine.{GroupLine}
use Rattle.seq_cert.specs.declared.report.MissedLine.{MissedLine}

-- the greatest numbers of 32 and of 64 bits
abbrev pub most_32 : ℕ
most_32 = 2 ^ 32 - 1

abbrev pub most_64 : ℕ
most_64 = 2 ^ 64 - 1

-- two options as one of a pair
abbrev pub both : {A B : Type 0} → Option A → Option B → Option (A × B)
both None b = None
both (Some x) None = None
both (Some x) (Some y) = Some (x, y)

abbrev pub is_in : ℕ → ℕ → ℕ → Bool
is_in low high c = nat_le low c && nat_le c high

-- a label has one or more bytes from 0x21 to 0x7e
abbrev pub is_label : List ℕ → Bool
is_label label = not (nat_eq (length label) 0) && list_all (is_in 33 126) label

-- a name, or `-`
abbrev pub is_mode : List ℕ → Bool
is_mode mode = bytes_eq mode (codes "-") || is_name mode

-- a line of a key and one more word
abbrev pub keyed : {A : Type 0} → List ℕ → (List ℕ → Option A) → Option (List ℕ × List ℕ) → Option A
keyed key f None = None
keyed key f (Some x) = cond (bytes_eq x.0 key) (f x.1) None

-- a key and a number in a range
abbrev pub numbered : List ℕ → ℕ → ℕ → List (List ℕ) → Option ℕ
numbered key least most words = keyed key (number_in least most) (two words)

abbrev pub title_from : Option (List ℕ × List ℕ × List ℕ) → Option (Unit {0})
title_from None = None
title_from (Some x) = cond (bytes_eq x.0 (codes "teams") && (bytes_eq x.1 (codes "report") && bytes_eq x.2 (codes "1"))) (Some tt) None

abbrev pub title_in : List (List ℕ) → Option (Unit {0})
title_in words = title_from (three words)

abbrev pub mode_word_in : List ℕ → Option (List ℕ)
mode_word_in mode = cond (is_mode mode) (Some mode) None

abbrev pub mode_in : List (List ℕ) → Option (List ℕ)
mode_in words = keyed (codes "mode") mode_word_in (two words)

abbrev pub verdict_in : List ℕ → Option Verdict
verdict_in word = cond (bytes_eq word (codes "optimal")) (Some Optimal) (cond (bytes_eq word (codes "bounded")) (Some Bounded) None)

abbrev pub result_in : List (List ℕ) → Option Verdict
result_in words = keyed (codes "result") verdict_in (two words)

-- the weight and the count of states of class k
abbrev pub class_from : ℕ → Option (List ℕ × List ℕ × List ℕ × List ℕ) → Option (ℕ × ℕ)
class_from k None = None
class_from k (Some x) = cond (bytes_eq x.0 (codes "class") && bytes_eq x.1 (decimal k)) (both (number_in 0 most_64 x.2) (number_in 1 most_64 x.3)) None

abbrev pub class_in : ℕ → List (List ℕ) → Option (ℕ × ℕ)
class_in k words = class_from k (four words)

abbrev pub state_from : Option (List ℕ × List ℕ × List ℕ) → Option StateLine
state_from None = None
state_from (Some x) = cond (bytes_eq x.0 (codes "state") && is_label x.2) (option_map (λ w. record { weight = w; label = x.2 }) (number_in 0 most_64 x.1)) None

abbrev pub state_in : List (List ℕ) → Option StateLine
state_in words = state_from (three words)

abbrev pub test_from : ℕ → Option (List ℕ × List ℕ × List ℕ × List ℕ) → Option TestLabel
test_from k None = None
test_from k (Some x) = cond (bytes_eq x.0 (codes "test") && (bytes_eq x.1 (decimal k) && is_label x.3)) (option_map (λ c. record { cost = c; label = x.3 }) (number_in 0 most_32 x.2)) None

abbrev pub test_in : ℕ → List (List ℕ) → Option TestLabel
test_in k words = test_from k (four words)

-- whether the first word is `ask` or `leaf`
abbrev pub is_tree_line : List (List ℕ) → Bool
is_tree_line words = bytes_eq (first_of words) (codes "ask") || bytes_eq (first_of words) (codes "leaf")

abbrev pub tree_from : Option (List ℕ × List ℕ) → Option TreeLine
tree_from None = None
tree_from (Some x) = cond (bytes_eq x.0 (codes "ask")) (option_map (λ t. Ask t) (number_in 0 most_32 x.1)) (cond (bytes_eq x.0 (codes "leaf")) (option_map (λ c. Leaf c) (number_in 0 most_32 x.1)) None)

abbrev pub tree_line_in : List (List ℕ) → Option TreeLine
tree_line_in words = tree_from (two words)

abbrev pub group_of : ℕ × (List ℕ × ℕ) → GroupLine
group_of x = record { size = x.0; group = record { 0 = x.1.0 }; low = x.1.1 }

abbrev pub group_from : Option (List ℕ × List ℕ × List ℕ × List ℕ) → Option GroupLine
group_from None = None
group_from (Some x) = cond (bytes_eq x.0 (codes "group")) (option_map group_of (both (number_in 0 most_32 x.1) (both (hex_in x.2) (number_in 0 most_64 x.3)))) None

abbrev pub group_in : List (List ℕ) → Option GroupLine
group_in words = group_from (four words)

abbrev pub missed_of : ℕ × List ℕ → MissedLine
missed_of x = record { size = x.0; group = record { 0 = x.1 } }

abbrev pub missed_from : Option (List ℕ × List ℕ × List ℕ) → Option MissedLine
missed_from None = None
missed_from (Some x) = cond (bytes_eq x.0 (codes "missed")) (option_map missed_of (both (number_in 0 most_32 x.1) (hex_in x.2))) None

abbrev pub missed_in : List (List ℕ) → Option MissedLine
missed_in words = missed_from (three words)

abbrev pub end_from : Option (List ℕ) → Option (Unit {0})
end_from None = None
end_from (Some word) = cond (bytes_eq word (codes "end")) (Some tt) None

abbrev pub end_in : List (List ℕ) → Option (Unit {0})
end_in words = end_from (one words)

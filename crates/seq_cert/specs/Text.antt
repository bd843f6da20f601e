-- The text of a report: its lines, each a list of words, in their order, and the bytes of these lines.
use Rattle.std.specs.Prelude.{ℕ, suc, List, [], ◌∷◌, ◌++◌, length, map, decimal, codes, Option, Some, None}
use Rattle.sig_lines.specs.Hex.{number_of_words, hex}
use Rattle.sig_lines.specs.Pieces.{Words, number_words, test_words, bytes_of}
use Rattle.sig_lines.specs.declared.labels.TestLabel.{TestLabel}
use Rattle.seq_inst.specs.declared.group.Group.{Group}
use Rattle.seq_inst.specs.declared.outcome.Verdict.{Verdict}
use Rattle.seq_inst.specs.Verdicts.{verdict_word}
use Rattle.seq_cert.specs.declared.report.Report.{Report}
use Rattle.seq_cert.specs.declared.report.ClassLine.{ClassLine}
use Rattle.seq_cert.specs.declared.report.StateLine.{StateLine}
use Rattle.seq_cert.specs.declared.report.TreeLine.{TreeLine}
use Rattle.seq_cert.specs.declared.report.TreeLine.TheVariants.{Ask, Leaf}
use Rattle.seq_cert.specs.declared.report.GroupLine.{GroupLine}
use Rattle.seq_cert.specs.declared.report.MissedLine.{MissedLine}

abbrev pub title_words : Words
title_words = codes "teams" ∷ codes "report" ∷ codes "1" ∷ []

abbrev pub mode_words : List ℕ → Words
mode_words mode = codes "mode" ∷ mode ∷ []

abbrev pub result_words : Verdict → Words
result_words verdict = codes "result" ∷ verdict_word verdict ∷ []

-- class k with its weight and the count of its states
abbrev pub class_words : ℕ → ℕ → ℕ → Words
class_words k weight count = codes "class" ∷ decimal k ∷ decimal weight ∷ decimal count ∷ []

abbrev pub state_words : StateLine → Words
state_words s = codes "state" ∷ decimal s.weight ∷ s.label ∷ []

abbrev pub tree_words : TreeLine → Words
tree_words (Ask t) = codes "ask" ∷ decimal t ∷ []
tree_words (Leaf c) = codes "leaf" ∷ decimal c ∷ []

-- the group as a number in hexadecimal: bit c is 1 exactly where class c is in the group
abbrev pub hex_word : Group → List ℕ
hex_word g = hex (number_of_words g.0)

abbrev pub group_words : GroupLine → Words
group_words g = codes "group" ∷ decimal g.size ∷ hex_word g.group ∷ decimal g.low ∷ []

abbrev pub missed_words : MissedLine → Words
missed_words m = codes "missed" ∷ decimal m.size ∷ hex_word m.group ∷ []

-- the first twelve lines
abbrev pub head_lines : Report → List Words
head_lines r =
    title_words ∷ mode_words r.mode ∷ number_words (codes "states") r.states ∷ number_words (codes "classes") r.classes ∷ number_words (codes "tests") r.tests
    ∷ number_words (codes "weight") r.weight ∷ result_words r.verdict ∷ number_words (codes "cost") r.cost
    ∷ number_words (codes "low") r.low ∷ number_words (codes "gap") r.gap ∷ number_words (codes "limit") r.limit ∷ number_words (codes "groups") (length r.groups) ∷ []

-- each class line with its state lines, the first of class k
abbrev pub class_lines : ℕ → List ClassLine → List Words
class_lines k [] = []
class_lines k (c ∷ cs) = class_words k c.weight (length c.states) ∷ (map state_words c.states ++ class_lines (suc k) cs)

-- each test line, the first of test k
abbrev pub test_lines : ℕ → List TestLabel → List Words
test_lines k [] = []
test_lines k (t ∷ ts) = test_words k t ∷ test_lines (suc k) ts

-- a line where a group was missed
abbrev pub missed_lines : Option MissedLine → List Words
missed_lines None = []
missed_lines (Some m) = missed_words m ∷ []

-- all lines of a report
abbrev pub report_lines : Report → List Words
report_lines r =
    head_lines r
    ++ (class_lines 0 r.class_lines
    ++ (test_lines 0 r.test_lines
    ++ (map tree_words r.tree
    ++ (map group_words r.groups
    ++ (missed_lines r.missed
    ++ (codes "end" ∷ []) ∷ [])))))

-- the bytes of a report
abbrev pub report_bytes : Report → List ℕ
report_bytes r = bytes_of (report_lines r)

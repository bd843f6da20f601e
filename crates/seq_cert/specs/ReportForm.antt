-- Reports that have a text: every number is in its range, the counts are those of the lists, and the words are words.
use Rattle.std.specs.Prelude.{◌≡◌, ℕ, zero, suc, ◌-◌, ◌^◌, ◌<◌, ◌≤◌, true, List, [], ◌∷◌, length, Option, Some, None}
use Rattle.std.specs.List.{AllByRecursion}
use Rattle.sig_lines.specs.Hex.{number_of_words}
use Rattle.sig_lines.specs.Numbers.{words_of}
use Rattle.sig_lines.specs.declared.labels.TestLabel.{TestLabel}
use Rattle.seq_inst.specs.declared.group.Group.{Group}
use Rattle.seq_inst.specs.declared.outcome.Verdict.{Verdict}
use Rattle.seq_inst.specs.declared.outcome.Verdict.TheVariants.{Optimal, Bounded}
use Rattle.seq_cert.specs.declared.head_reader.Head.{Head}
use Rattle.seq_cert.specs.declared.report.Report.{Report}
use Rattle.seq_cert.specs.declared.report.ClassLine.{ClassLine}
use Rattle.seq_cert.specs.declared.report.StateLine.{StateLine}
use Rattle.seq_cert.specs.declared.report.TreeLine.{TreeLine}
use Rattle.seq_cert.specs.declared.report.TreeLine.TheVariants.{Ask, Leaf}
use Rattle.seq_cert.specs.declared.report.GroupLine.{GroupLine}
use Rattle.seq_cert.specs.declared.report.MissedLine.{MissedLine}
use Rattle.seq_cert.specs.LineForms.{most_32, most_64, is_label, is_mode}

-- the first twelve lines of a report
abbrev pub head_of_report : Report → Head
head_of_report r = record {
  mode = r.mode;
  states = r.states;
  classes = r.classes;
  tests = r.tests;
  weight = r.weight;
  verdict = r.verdict;
  cost = r.cost;
  low = r.low;
  gap = r.gap;
  limit = r.limit;
  groups = length r.groups;
}

abbrev pub InRange : ℕ → ℕ → ℕ → Type 0
InRange least most n = (least ≤ n) × (n ≤ most)

pub record IsHead (h : Head) : Type 0 where
  pub mode : is_mode h.mode ≡ true
  pub states : InRange 1 4097 h.states
  pub classes : InRange 1 512 h.classes
  pub tests : InRange 0 256 h.tests
  pub weight : InRange 0 most_64 h.weight
  pub cost : InRange 0 most_64 h.cost
  pub low : InRange 0 most_64 h.low
  pub gap : InRange 0 most_64 h.gap
  pub limit : InRange 1 32768 h.limit
  pub groups : InRange 0 32768 h.groups

pub record IsState (s : StateLine) : Type 0 where
  pub weight : s.weight ≤ most_64
  pub label : is_label s.label ≡ true

-- state lines, so many, for which there is room
abbrev pub AreStates : ℕ → ℕ → List StateLine → Type 0
AreStates room count states = (length states ≡ count) × (count ≤ room) × AllByRecursion IsState states

abbrev pub IsClassLine : ℕ × ℕ → Type 0
IsClassLine x = InRange 0 most_64 x.0 × InRange 1 most_64 x.1

pub record IsClass (room : ℕ) (c : ClassLine) : Type 0 where
  pub line : IsClassLine (c.weight, length c.states)
  pub states : AreStates room (length c.states) c.states

-- classes with so much room for their states
abbrev pub AreClasses : ℕ → List ClassLine → Type 0
AreClasses room [] = Unit {0}
AreClasses room (c ∷ cs) = IsClass room c × AreClasses (room - length c.states) cs

pub record IsTest (t : TestLabel) : Type 0 where
  pub cost : t.cost ≤ most_32
  pub label : is_label t.label ≡ true

-- tree lines with at most so many asks
abbrev pub AreTreeLines : ℕ → List TreeLine → Type 0
AreTreeLines asks [] = Unit {0}
AreTreeLines asks (Leaf c ∷ lines) = (c ≤ most_32) × AreTreeLines asks lines
AreTreeLines zero (Ask t ∷ lines) = ⊥
AreTreeLines (suc asks) (Ask t ∷ lines) = (t ≤ most_32) × AreTreeLines asks lines

-- a group of eight words of 64 bits
pub record IsGroup (g : Group) : Type 0 where
  pub small : number_of_words g.0 < 2 ^ 512
  pub words : words_of 8 (number_of_words g.0) ≡ g.0

pub record IsGroupLine (l : GroupLine) : Type 0 where
  pub size : l.size ≤ most_32
  pub group : IsGroup l.group
  pub low : l.low ≤ most_64

pub record IsMissedLine (m : MissedLine) : Type 0 where
  pub size : m.size ≤ most_32
  pub group : IsGroup m.group

-- a missed group is there exactly where the result is bounded
abbrev pub IsMissing : Verdict → Option MissedLine → Type 0
IsMissing Optimal None = Unit {0}
IsMissing Optimal (Some m) = ⊥
IsMissing Bounded None = ⊥
IsMissing Bounded (Some m) = IsMissedLine m

pub record IsReport (r : Report) : Type 0 where
  pub head : IsHead (head_of_report r)
  pub class_count : length r.class_lines ≡ r.classes
  pub class_lines : AreClasses 4097 r.class_lines
  pub test_count : length r.test_lines ≡ r.tests
  pub test_lines : AllByRecursion IsTest r.test_lines
  pub tree : AreTreeLines 511 r.tree
  pub groups : AllByRecursion IsGroupLine r.groups
  pub missed : IsMissing r.verdict r.missed

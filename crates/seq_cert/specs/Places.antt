-- The form of a report, line by line. Each line stands at a place, which the lines before it give; a place asks a form of its
-- line. The first bad line is the first that isn't of the form that its place asks, or that is missing.
use Rattle.std.specs.Prelude.{◌≡◌, ◌&&◌, ℕ, zero, suc, ◌+◌, Bool, true, false, cond, nat_eq, List, [], ◌∷◌, ◌++◌, length, codes, Option, Some, None, ⊤}
use Rattle.std.specs.Option.{option_map}
use Rattle.sig_lines.specs.Pieces.{words_in, lines_in, tail_in}
use Rattle.seq_inst.specs.declared.outcome.Verdict.{Verdict}
use Rattle.seq_inst.specs.declared.outcome.Verdict.TheVariants.{Optimal, Bounded}
use Rattle.seq_cert.specs.LineForms.{most_64, numbered, title_in, mode_in, result_in, class_in, state_in, test_in, is_tree_line, tree_line_in, group_in, missed_in, end_in}
use Rattle.seq_cert.specs.declared.report.TreeLine.{TreeLine}
use Rattle.seq_cert.specs.declared.report.TreeLine.TheVariants.{Ask, Leaf}
use Rattle.seq_cert.specs.declared.fault.ReportFault.{ReportFault}
use Rattle.seq_cert.specs.declared.fault.ReportFault.TheVariants.{Bad, OutOfMemory}
use Rattle.seq_cert.specs.declared.fault.BadCode.TheVariants.{C01}

-- what the first lines say of those that follow: the numbers of class lines, test lines and group lines, and the verdict
pub record Told : Type 0 where
  pub classes : ℕ
  pub tests : ℕ
  pub verdict : Verdict
  pub groups : ℕ

-- Where a line stands. Each of the first twelve lines has a place of its own. Behind them `left` lines of a kind are still to
-- come, k is the number of the next class or test, and there is `room` for so many state lines, and for so many asks.
pub data Place : Type 0 where
  title : Place
  mode : Place
  states : Place
  classes : Place
  tests : (classes : ℕ) → Place
  weight : (classes tests : ℕ) → Place
  result : (classes tests : ℕ) → Place
  cost : (classes tests : ℕ) → Verdict → Place
  low : (classes tests : ℕ) → Verdict → Place
  gap : (classes tests : ℕ) → Verdict → Place
  limit : (classes tests : ℕ) → Verdict → Place
  groups : (classes tests : ℕ) → Verdict → Place
  class : (left k room : ℕ) → Told → Place
  state : (left room classes_left k : ℕ) → Told → Place
  test : (left k : ℕ) → Told → Place
  tree : (asks : ℕ) → Told → Place
  group : (left : ℕ) → Verdict → Place
  end : Place
  over : Place

-- how many asks are left after a tree line
abbrev pub asks_after : ℕ → TreeLine → Option ℕ
asks_after asks (Leaf c) = Some asks
asks_after zero (Ask t) = None
asks_after (suc asks) (Ask t) = Some asks

abbrev pub with_left : TreeLine → Option ℕ → Option (TreeLine × ℕ)
with_left line None = None
with_left line (Some left) = Some (line, left)

abbrev pub with_asks : ℕ → Option TreeLine → Option (TreeLine × ℕ)
with_asks asks None = None
with_asks asks (Some line) = with_left line (asks_after asks line)

-- The place of the next line, where a line at this place has the form that is asked.

-- a group line; behind the last one the missed group of a bounded result, and then the end
abbrev pub after_group : ℕ → Verdict → List (List ℕ) → Option Place
after_group zero Optimal words = option_map (λ x. over) (end_in words)
after_group zero Bounded words = option_map (λ x. end) (missed_in words)
after_group (suc left) v words = option_map (λ x. group left v) (group_in words)

-- an ask or a leaf; the first other line stands behind the tree
abbrev pub after_tree : ℕ → Told → List (List ℕ) → Option Place
after_tree asks told words =
    cond (is_tree_line words) (option_map (λ x. tree x.1 told) (with_asks asks (tree_line_in words)))
    (after_group told.groups told.verdict words)

abbrev pub after_test : ℕ → ℕ → Told → List (List ℕ) → Option Place
after_test zero k told words = after_tree 511 told words
after_test (suc left) k told words = option_map (λ x. test left (suc k) told) (test_in k words)

abbrev pub after_class : ℕ → ℕ → ℕ → Told → List (List ℕ) → Option Place
after_class zero k room told words = after_test told.tests 0 told words
after_class (suc left) k room told words = option_map (λ x. state x.1 room left (suc k) told) (class_in k words)

-- a state line of the class before class k, while there is room for it
abbrev pub after_state : ℕ → ℕ → ℕ → ℕ → Told → List (List ℕ) → Option Place
after_state zero room classes_left k told words = after_class classes_left k room told words
after_state (suc left) zero classes_left k told words = None
after_state (suc left) (suc room) classes_left k told words = option_map (λ x. state left room classes_left k told) (state_in words)

abbrev pub next_place : Place → List (List ℕ) → Option Place
next_place title words = option_map (λ x. mode) (title_in words)
next_place mode words = option_map (λ x. states) (mode_in words)
next_place states words = option_map (λ x. classes) (numbered (codes "states") 1 4097 words)
next_place classes words = option_map (λ x. tests x) (numbered (codes "classes") 1 512 words)
next_place (tests c) words = option_map (λ x. weight c x) (numbered (codes "tests") 0 256 words)
next_place (weight c t) words = option_map (λ x. result c t) (numbered (codes "weight") 0 most_64 words)
next_place (result c t) words = option_map (λ x. cost c t x) (result_in words)
next_place (cost c t v) words = option_map (λ x. low c t v) (numbered (codes "cost") 0 most_64 words)
next_place (low c t v) words = option_map (λ x. gap c t v) (numbered (codes "low") 0 most_64 words)
next_place (gap c t v) words = option_map (λ x. limit c t v) (numbered (codes "gap") 0 most_64 words)
next_place (limit c t v) words = option_map (λ x. groups c t v) (numbered (codes "limit") 1 32768 words)
next_place (groups c t v) words = option_map (λ x. class c 0 4097 (record { classes = c; tests = t; verdict = v; groups = x })) (numbered (codes "groups") 0 32768 words)
next_place (class left k room told) words = after_class left k room told words
next_place (state left room classes_left k told) words = after_state left room classes_left k told words
next_place (test left k told) words = after_test left k told words
next_place (tree asks told) words = after_tree asks told words
next_place (group left v) words = after_group left v words
next_place end words = option_map (λ x. over) (end_in words)
next_place over words = None

-- whether nothing more is asked
abbrev pub is_over : Place → Bool
is_over over = true
is_over other = false

-- each line has the form that its place asks, and the next line stands at the second place
abbrev pub AreFormed : Place → List (List ℕ) → Place → Type 0
AreFormed here [] there = here ≡ there
AreFormed here (l ∷ ls) there = (next : Place) × (next_place here (words_in l) ≡ Some next) × AreFormed next ls there

-- the next line isn't of the form that the place asks; where no line is left, one is missing or has no end
abbrev pub IsBadAt : Place → List (List ℕ) → (tail : List ℕ) → Type 0
IsBadAt here [] tail = (is_over here && nat_eq (length tail) 0) ≡ false
IsBadAt here (l ∷ ls) tail = next_place here (words_in l) ≡ None

-- each line before the one of this number, counted from 1, has the form that its place asks, and this one has not
pub record IsFirstBadLine (bytes : List ℕ) (number : ℕ) : Type 0 where
  pub before : List (List ℕ)
  pub behind : List (List ℕ)
  pub place : Place
  pub lines : lines_in bytes ≡ before ++ behind
  pub number_is : number ≡ length before + 1
  pub formed : AreFormed title before place
  pub bad : IsBadAt place behind (tail_in bytes)

-- a fault names the first bad line, by the code of lines that aren't of their form; want of memory may come at any time
abbrev pub TellsFirstBad : List ℕ → ReportFault → Type 0
TellsFirstBad bytes OutOfMemory = ⊤
TellsFirstBad bytes (Bad bad) = (bad.code ≡ C01) × IsFirstBadLine bytes bad.line

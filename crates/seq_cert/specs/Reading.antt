-- Reading a report, line by line, up to the first line that is not of the form that its place asks.
use Rattle.std.specs.Prelude.{◌≡◌, ◌&&◌, ℕ, zero, suc, ◌+◌, ◌-◌, Bool, cond, nat_eq, List, [], ◌∷◌, length, codes, Option, Some, None, Result, Ok, Err}
use Rattle.sig_lines.specs.Pieces.{words_in}
use Rattle.sig_lines.specs.Reading.{Cursor, cursor, Reading, ◌>>=◌, ◌then◌, pair, read_as, line_at}
use Rattle.sig_lines.specs.declared.labels.TestLabel.{TestLabel}
use Rattle.sig_lines.specs.declared.reader.LineReader.{LineReader}
use Rattle.seq_inst.specs.declared.outcome.Verdict.{Verdict}
use Rattle.seq_inst.specs.declared.outcome.Verdict.TheVariants.{Optimal, Bounded}
use Rattle.seq_cert.specs.declared.fault.ReportFault.{ReportFault}
use Rattle.seq_cert.specs.declared.fault.ReportFault.TheVariants.{Bad, OutOfMemory}
use Rattle.seq_cert.specs.declared.fault.BadCode.TheVariants.{C01}
use Rattle.seq_cert.specs.declared.report.Report.{Report}
use Rattle.seq_cert.specs.declared.head_reader.Head.{Head}
use Rattle.seq_cert.specs.declared.report.ClassLine.{ClassLine}
use Rattle.seq_cert.specs.declared.report.StateLine.{StateLine}
use Rattle.seq_cert.specs.declared.report.TreeLine.{TreeLine}
use Rattle.seq_cert.specs.declared.report.TreeLine.TheVariants.{Ask, Leaf}
use Rattle.seq_cert.specs.declared.report.GroupLine.{GroupLine}
use Rattle.seq_cert.specs.declared.report.MissedLine.{MissedLine}
use Rattle.seq_cert.specs.Places.{asks_after, with_asks}
use Rattle.seq_cert.specs.LineForms.{most_64, numbered, title_in, mode_in, result_in, class_in, state_in, test_in, is_tree_line, tree_line_in, group_in, missed_in, end_in}

-- where a reader of the code stands
abbrev pub place : LineReader → Cursor
place r = cursor r.number (r.rest).now

-- the fault of a line that is not of its form
abbrev pub bad_at : ℕ → ReportFault
bad_at number = Bad (record { line = number; code = C01 })

-- what a function returned, seen by view, is what reading gives, unless memory ran out; a bad line has code C01
abbrev pub Fails : {Y : Type 0} → ReportFault → Result Y ℕ → Type 0
Fails OutOfMemory read = Unit {0}
Fails (Bad b) read = (b.code ≡ C01) × (read ≡ Err b.line)

abbrev pub Gives : {X Y : Type 0} → (X → Y) → Result X ReportFault → Result Y ℕ → Type 0
Gives view (Ok x) read = read ≡ Ok (view x)
Gives view (Err e) read = Fails e read

-- what the first twelve lines say, line by line
abbrev pub HeadSaid : Type 0
HeadSaid = Unit {0} × (List ℕ × (ℕ × (ℕ × (ℕ × (ℕ × (Verdict × (ℕ × (ℕ × (ℕ × (ℕ × ℕ))))))))))

abbrev pub head_from : HeadSaid → Head
head_from x = record {
  mode = x.1.0;
  states = x.1.1.0;
  classes = x.1.1.1.0;
  tests = x.1.1.1.1.0;
  weight = x.1.1.1.1.1.0;
  verdict = x.1.1.1.1.1.1.0;
  cost = x.1.1.1.1.1.1.1.0;
  low = x.1.1.1.1.1.1.1.1.0;
  gap = x.1.1.1.1.1.1.1.1.1.0;
  limit = x.1.1.1.1.1.1.1.1.1.1.0;
  groups = x.1.1.1.1.1.1.1.1.1.1.1;
}

-- the first twelve lines
unfoldable pub head_at : Cursor → Reading Head
head_at c = read_as head_from
    (line_at title_in
    then (line_at mode_in
    then (line_at (numbered (codes "states") 1 4097)
    then (line_at (numbered (codes "classes") 1 512)
    then (line_at (numbered (codes "tests") 0 256)
    then (line_at (numbered (codes "weight") 0 most_64)
    then (line_at result_in
    then (line_at (numbered (codes "cost") 0 most_64)
    then (line_at (numbered (codes "low") 0 most_64)
    then (line_at (numbered (codes "gap") 0 most_64)
    then (line_at (numbered (codes "limit") 1 32768)
    then line_at (numbered (codes "groups") 0 32768)))))))))))) c

-- so many lines, of the form that each number from k on has
unfoldable pub lines_at : {A : Type 0} → (ℕ → List (List ℕ) → Option A) → ℕ → ℕ → Cursor → Reading (List A)
lines_at form zero k c = Ok ([], c)
lines_at form (suc count) k c = do
  line ← line_at (form k) c
  more ← lines_at form count (suc k) line.1
  Ok (line.0 ∷ more.0, more.1)

-- so many state lines, but no more than there is room for: the first line past that is bad
unfoldable pub states_at : ℕ → ℕ → Cursor → Reading (List StateLine)
states_at zero count c = cond (nat_eq count 0) (Ok ([], c)) (Err c.number)
states_at (suc room) count c = cond (nat_eq count 0) (Ok ([], c)) (do
  line ← line_at state_in c
  more ← states_at room (count - 1) line.1
  Ok (line.0 ∷ more.0, more.1))

-- a class line and its state lines
abbrev pub class_line_of : (ℕ × ℕ) × List StateLine → ClassLine
class_line_of x = record { weight = x.0.0; states = x.1 }

unfoldable pub class_at : ℕ → ℕ → Cursor → Reading ClassLine
class_at room k c = read_as class_line_of (pair (line_at (class_in k)) (λ x. states_at room x.1)) c

-- so many classes with their states, from class k on, with so much room for state lines
unfoldable pub classes_at : ℕ → ℕ → ℕ → Cursor → Reading (List ClassLine)
classes_at room zero k c = Ok ([], c)
classes_at room (suc count) k c = do
  class ← class_at room k c
  more ← classes_at (room - length (class.0).states) count (suc k) class.1
  Ok (class.0 ∷ more.0, more.1)

-- a tree line, and then more of them, where so many asks are left
abbrev pub and_more : ℕ → (ℕ → Reading (List TreeLine)) → Option (TreeLine × ℕ) → Reading (List TreeLine)
and_more number more None = Err number
and_more number more (Some x) = (more x.1) >>= λ rest. Ok (x.0 ∷ rest.0, rest.1)

-- the tree lines from here up to the first line whose first word is neither `ask` nor `leaf`
abbrev pub tree_lines_at : ℕ → ℕ → List ℕ → List (List ℕ) → Reading (List TreeLine)
tree_lines_at asks number tail [] = Ok ([], record { number = number; lines = []; tail = tail })
tree_lines_at asks number tail (l ∷ ls) =
    cond (is_tree_line (words_in l))
    (and_more number (λ left. tree_lines_at left (number + 1) tail ls) (with_asks asks (tree_line_in (words_in l))))
    (Ok ([], record { number = number; lines = l ∷ ls; tail = tail }))

abbrev pub read_tree : ℕ → Cursor → Reading (List TreeLine)
read_tree asks c = tree_lines_at asks c.number c.tail c.lines

-- the missed line, where the result is bounded
unfoldable pub read_missed : Verdict → Cursor → Reading (Option MissedLine)
read_missed Optimal c = Ok (None, c)
read_missed Bounded c = do
  line ← line_at missed_in c
  Ok (Some line.0, line.1)

-- nothing follows
abbrev pub is_nothing : List (List ℕ) → List ℕ → Bool
is_nothing lines tail = nat_eq (length lines) 0 && nat_eq (length tail) 0

-- what follows the first lines
unfoldable pub body_at : Head → Cursor → Reading (List ClassLine × (List TestLabel × (List TreeLine × (List GroupLine × (Option MissedLine × Unit {0})))))
body_at h c = (classes_at 4097 h.classes 0 then (lines_at test_in h.tests 0 then (read_tree 511 then (lines_at (λ k. group_in) h.groups 0 then (read_missed h.verdict then line_at end_in))))) c

abbrev pub report_with : Head × (List ClassLine × (List TestLabel × (List TreeLine × (List GroupLine × (Option MissedLine × Unit {0}))))) → Report
report_with x = record {
  mode = (x.0).mode;
  states = (x.0).states;
  classes = (x.0).classes;
  tests = (x.0).tests;
  weight = (x.0).weight;
  verdict = (x.0).verdict;
  cost = (x.0).cost;
  low = (x.0).low;
  gap = (x.0).gap;
  limit = (x.0).limit;
  class_lines = x.1.0;
  test_lines = x.1.1.0;
  tree = x.1.1.1.0;
  groups = x.1.1.1.1.0;
  missed = x.1.1.1.1.1.0;
}

-- a report up to its last line
unfoldable pub whole_at : Cursor → Reading Report
whole_at c = read_as report_with (pair head_at body_at) c

-- nothing follows the last line
abbrev pub only : Report × Cursor → Result Report ℕ
only x = cond (is_nothing (x.1).lines (x.1).tail) (Ok x.0) (Err (x.1).number)

-- a whole report, or the number of its first bad line
unfoldable pub report_at : List ℕ → Result Report ℕ
report_at bytes = whole_at (cursor 1 bytes) >>= only

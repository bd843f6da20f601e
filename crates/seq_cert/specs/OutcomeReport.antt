-- The report of an outcome.
use Rattle.std.specs.Prelude.{ℕ, ◌-◌, Bool, nat_eq, List, filter, map, length}
use Rattle.std.specs.Option.{option_map}
use Rattle.seq_theory.specs.Problem.{Problem, all_classes, count_up, weight_of}
use Rattle.sig_lines.specs.declared.labels.StateLabel.{StateLabel}
use Rattle.sig_lines.specs.declared.labels.Labels.{Labels}
use Rattle.seq_inst.specs.Members.{members}
use Rattle.seq_inst.specs.Trees.{tree_of}
use Rattle.seq_inst.specs.declared.group.Group.{Group}
use Rattle.seq_inst.specs.declared.outcome.Row.{Row}
use Rattle.seq_inst.specs.declared.outcome.Outcome.{Outcome}
use Rattle.seq_cert.specs.declared.report.Report.{Report}
use Rattle.seq_cert.specs.declared.report.ClassLine.{ClassLine}
use Rattle.seq_cert.specs.declared.report.StateLine.{StateLine}
use Rattle.seq_cert.specs.declared.report.GroupLine.{GroupLine}
use Rattle.seq_cert.specs.declared.report.MissedLine.{MissedLine}
use Rattle.seq_cert.specs.TreeLines.{tree_lines}
use Rattle.seq_cert.specs.Order.{in_order}

-- whether the state is in class k
abbrev pub is_of : ℕ → StateLabel → Bool
is_of k s = nat_eq s.class k

abbrev pub state_line : StateLabel → StateLine
state_line s = record { weight = s.weight; label = s.label }

-- class k with its weight and its states, in order of states
abbrev pub class_line : Problem → List StateLabel → ℕ → ClassLine
class_line p states k = record { weight = p.weight k; states = map state_line (filter (is_of k) states) }

-- the line of a row: its group and its low
abbrev pub row_line : Row → GroupLine
row_line r = record { size = length (members r.group); group = r.group; low = r.low }

abbrev pub missed_line : Group → MissedLine
missed_line g = record { size = length (members g); group = g }

-- the report of an outcome: the counts, the weight of all classes, what the outcome says, the gap between cost and low,
-- each class with its states, the tests, the strategy from the group of all classes on, the rows in order
abbrev pub report_from : Problem → Outcome → Labels → Report
report_from p o labels = record {
  mode = labels.mode;
  states = length labels.states;
  classes = p.classes;
  tests = p.tests;
  weight = weight_of p (all_classes p);
  verdict = o.verdict;
  cost = o.cost;
  low = o.low;
  gap = o.cost - o.low;
  limit = o.limit;
  class_lines = map (class_line p labels.states) (count_up 0 p.classes);
  test_lines = labels.tests;
  tree = tree_lines p (tree_of o.strategy) (all_classes p);
  groups = in_order (map row_line o.rows.items);
  missed = option_map missed_line o.missed;
}

-- When the report of an outcome has the form that a reader asks: its words are words of their kind, and no more is
-- listed than a report has room for.
use Rattle.std.specs.Prelude.{◌≡◌, ◌≤◌, true, length, map, Option, Some, None, IfSome}
use Rattle.std.specs.Option.{option_map}
use Rattle.std.specs.List.{All}
use Rattle.sig_lines.specs.declared.labels.StateLabel.{StateLabel}
use Rattle.sig_lines.specs.declared.labels.TestLabel.{TestLabel}
use Rattle.sig_lines.specs.declared.labels.Labels.{Labels}
use Rattle.seq_inst.specs.Shapes.{leaf_count}
use Rattle.seq_inst.specs.Trees.{tree_of}
use Rattle.seq_inst.specs.declared.group.Group.{Group}
use Rattle.seq_inst.specs.declared.outcome.Outcome.{Outcome}
use Rattle.seq_inst.specs.declared.outcome.Verdict.{Verdict}
use Rattle.seq_inst.specs.declared.outcome.Verdict.TheVariants.{Optimal, Bounded}
use Rattle.seq_cert.specs.LineForms.{most_64, is_label, is_mode}
use Rattle.seq_cert.specs.ReportForm.{InRange, IsGroupLine, IsMissedLine}
use Rattle.seq_cert.specs.Order.{in_order}
use Rattle.seq_cert.specs.OutcomeReport.{row_line, missed_line}

-- a group was missed exactly where the result is bounded
abbrev pub IsMissedAt : Verdict → Option Group → Type 0
IsMissedAt Optimal None = Unit {0}
IsMissedAt Optimal (Some g) = ⊥
IsMissedAt Bounded None = ⊥
IsMissedAt Bounded (Some g) = Unit {0}

pub record IsPrintable (o : Outcome) (labels : Labels) : Type 0 where
  pub mode : is_mode labels.mode ≡ true
  pub state_labels : All (λ (s : StateLabel). is_label s.label ≡ true) labels.states
  pub test_labels : All (λ (t : TestLabel). is_label t.label ≡ true) labels.tests
  pub states : length labels.states ≤ 4097
  pub limit : InRange 1 32768 o.limit
  pub rows : length o.rows.items ≤ 32768
  pub leaves : leaf_count (tree_of o.strategy) ≤ 512
  pub missed : IsMissedAt o.verdict o.missed

-- the numbers of an outcome fit their words
pub record FitWords (o : Outcome) : Type 0 where
  pub cost : o.cost ≤ most_64
  pub low : o.low ≤ most_64
  pub groups : All IsGroupLine (in_order (map row_line o.rows.items))
  pub missed : IfSome (option_map missed_line o.missed) IsMissedLine

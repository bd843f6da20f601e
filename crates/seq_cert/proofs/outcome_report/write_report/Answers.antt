use Rattle.std.proofs.Common.{List, subst}
use Rattle.std.specs.Prelude.{map}
use Rattle.std.specs.List.{All}
use Rattle.seq_inst.specs.declared.outcome.Row.{Row}
use Rattle.seq_cert.specs.ReportForm.{IsGroupLine}
use Rattle.seq_cert.specs.Order.{in_order}
use Rattle.seq_cert.specs.OutcomeReport.{row_line}
use Rattle.seq_cert.proofs.outcome_report.write_report.Goals as goal

pub returns-clause-numbers : goal.returns-clause-numbers
returns-clause-numbers c = record {
  cost = c.know_costs.ensures.cost;
  low = c.know_costs.ensures.low;
  groups = subst (λ (rows : List Row). All IsGroupLine (in_order (map row_line rows))) c.as_slice-3.ensures.value c.in_ok-write_groups.ensures.fits;
  missed = c.write_missed.ensures.fits;
}

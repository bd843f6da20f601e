use Rattle.std.proofs.Common.{◌≡◌, map, take}
use Rattle.std.specs.List.{All}
use Rattle.seq_cert.specs.OutcomeReport.{row_line}
use Rattle.seq_cert.specs.ReportForm.{IsGroupLine}
use Rattle.seq_cert.proofs.groups.lines_in_order.Given as goal

-- the rows before this one have their lines
abbrev pub invariant-loop-row : goal.invariant-loop-row
invariant-loop-row l = record { lines_are : l.lines.items ≡ map row_line (take l.row-index l.rows); fits : All IsGroupLine l.lines.items }

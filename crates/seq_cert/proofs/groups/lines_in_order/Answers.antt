use Rattle.std.proofs.Common.{map, ap, subst, ◌∙◌, rules}
use Rattle.std.specs.List.{All}
use Rattle.std.proofs.lemmas.List.{take_all}
use Rattle.std.proofs.lemmas.List.Sorted.{answers_always}
use Rattle.seq_cert.specs.OutcomeReport.{row_line}
use Rattle.seq_cert.specs.ReportForm.{IsGroupLine}
use Rattle.seq_cert.specs.Order.{is_before, in_order}
use Rattle.seq_cert.proofs.OrderLaws.{before_orders, sorted_lines, all-in_order}
use Rattle.seq_cert.proofs.groups.lines_in_order.Goals as goal

pub returns-clause-order : goal.returns-clause-order
returns-clause-order c =
    let all = take_all c.loop-row.row-index c.args.rows.now c.loop-row-test.false in
    sorted_lines c.loop-row.lines.items c.sort_by.new.self.items
    (c.in_ok-sort_by.ensures.sorted is_before before_orders (answers_always _ _ _ (λ f a r g k. search rules)))
    (c.sort_by.ensures.stable is_before before_orders (answers_always _ _ _ (λ f a r g k. search rules)))
    ∙ ap in_order (c.loop-row.invariant.lines_are ∙ ap (map row_line) all)

pub returns-clause-fits : goal.returns-clause-fits
returns-clause-fits c =
    let all = take_all c.loop-row.row-index c.args.rows.now c.loop-row-test.false in
    all-in_order IsGroupLine (map row_line c.args.rows.now) (subst (All IsGroupLine) (c.loop-row.invariant.lines_are ∙ ap (map row_line) all) c.loop-row.invariant.fits)

use Rattle.std.proofs.Common.{◌≤◌, min, arith, ap, subst}
use Rattle.std.specs.Prelude.{All}
use Rattle.std.proofs.lemmas.List.{get_or_read}
use Rattle.std.proofs.lemmas.List.Elements.{All-weaker}
use Rattle.seq_theory.specs.Bound.{step_sum}
use Rattle.seq_theory.specs.Rows.{known_low}
use Rattle.seq_inst.specs.declared.outcome.Row.{Row}
use Rattle.seq_inst.specs.Members.{members}
use Rattle.seq_inst.specs.Instances.{problem_of}
use Rattle.seq_core.specs.RowsOf.{rows_of as rows_from}
use Rattle.seq_graph.specs.declared.node.Split.{Split}
use Rattle.seq_graph.specs.declared.node.Waiting.{Waiting}
use Rattle.seq_graph.specs.Known.{Allow, no_row, row_at, group_at}
use Rattle.seq_graph.proofs.BoundsLaws.{allowed-right}
use Rattle.seq_graph.proofs.CountLaws.{kept-read}
use Rattle.seq_graph.proofs.SplitLaws.{splits-read}
use Rattle.seq_graph.proofs.ChoosingLaws.{low-allowed}
use Rattle.seq_graph.proofs.glance.seen_bounds.Goals as goal

pub returns-clause-allowed : goal.returns-clause-allowed
returns-clause-allowed c =
    let s = c.args.graph.now in
    let p = problem_of c.args.inst.now in
    let rows = s.rows.items in
    let g = members (group_at rows c.args.place) in
    let k = c.index-node.result.now in
    let f = step_sum p (known_low p (rows_from rows)) g in
    let kept = kept-read p s.numbers rows s.nodes.items s.counts.items c.requires.known c.args.place k c.requires.place c.index-node.ensures in
    let long = c.requires.known.kept_are.as_many in
    let place = c.requires.place in
    let splits = splits-read s.nodes.items c.args.place k (omega arith) c.index-node.ensures in
    let up = ap (λ (r : Row). r.up) (get_or_read rows c.args.place c.index.result.now place c.index.ensures no_row) in
    let low = c.min.ensures in
    let missing = c.min-missing.ensures in
    let number = c.least_number-waiting.ensures.number in
    let evaluated = subst (All (λ (x : Split). c.min.result ≤ f x.test)) splits
    (All-weaker (λ (x : Split). c.evaluated_bounds-evaluated.result.low ≤ f x.test) (λ (x : Split). c.min.result ≤ f x.test) (λ x le. omega arith) _ c.evaluated_bounds-evaluated.ensures.low) in
    let waits = subst (All (λ (x : Waiting). c.min.result ≤ x.least)) c.as_slice.ensures.value
    (All-weaker (λ (x : Waiting). c.least_number-waiting.result ≤ x.least) (λ (x : Waiting). c.min.result ≤ x.least) (λ x le. omega arith) _ c.least_number-waiting.ensures.waiting) in
    let below = low-allowed c.args.inst.now rows c.requires.known.rows_are c.args.place place s.numbers c.min.result (min (row_at rows c.args.place).up k.most) k.splits.items k.waiting.items kept.tests evaluated waits (omega arith) k.bound kept.bound_is in
    let is = c.max.ensures in
    let allowed : Allow p rows g c.max.result c.evaluated_bounds-evaluated.result.up = record { low_allowed = omega arith; up_allowed = c.evaluated_bounds-evaluated.ensures.up } in
    allowed

pub returns-clause-right : goal.returns-clause-right
returns-clause-right c =
    let s = c.args.graph.now in
    let p = problem_of c.args.inst.now in
    let rows = s.rows.items in
    let g = members (group_at rows c.args.place) in
    let k = c.index-node.result.now in
    let f = step_sum p (known_low p (rows_from rows)) g in
    let kept = kept-read p s.numbers rows s.nodes.items s.counts.items c.requires.known c.args.place k c.requires.place c.index-node.ensures in
    let long = c.requires.known.kept_are.as_many in
    let place = c.requires.place in
    let splits = splits-read s.nodes.items c.args.place k (omega arith) c.index-node.ensures in
    let up = ap (λ (r : Row). r.up) (get_or_read rows c.args.place c.index.result.now place c.index.ensures no_row) in
    let low = c.min.ensures in
    let missing = c.min-missing.ensures in
    let number = c.least_number-waiting.ensures.number in
    let evaluated = subst (All (λ (x : Split). c.min.result ≤ f x.test)) splits
    (All-weaker (λ (x : Split). c.evaluated_bounds-evaluated.result.low ≤ f x.test) (λ (x : Split). c.min.result ≤ f x.test) (λ x le. omega arith) _ c.evaluated_bounds-evaluated.ensures.low) in
    let waits = subst (All (λ (x : Waiting). c.min.result ≤ x.least)) c.as_slice.ensures.value
    (All-weaker (λ (x : Waiting). c.least_number-waiting.result ≤ x.least) (λ (x : Waiting). c.min.result ≤ x.least) (λ x le. omega arith) _ c.least_number-waiting.ensures.waiting) in
    let below = low-allowed c.args.inst.now rows c.requires.known.rows_are c.args.place place s.numbers c.min.result (min (row_at rows c.args.place).up k.most) k.splits.items k.waiting.items kept.tests evaluated waits (omega arith) k.bound kept.bound_is in
    let is = c.max.ensures in
    let allowed : Allow p rows g c.max.result c.evaluated_bounds-evaluated.result.up = record { low_allowed = omega arith; up_allowed = c.evaluated_bounds-evaluated.ensures.up } in
    allowed-right c.args.inst.now rows c.requires.known.rows_are c.args.place place c.max.result c.evaluated_bounds-evaluated.result.up allowed

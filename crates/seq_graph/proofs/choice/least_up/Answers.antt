use Rattle.std.proofs.Common.{◌∙◌, ◌+◌, ◌∷◌, arith, ap, sym, get_or, take, take_all, map}
use Rattle.std.specs.List.{filter_map}
use Rattle.std.proofs.lemmas.List.{map_more}
use Rattle.seq_theory.specs.Problem.{least_of}
use Rattle.seq_theory.specs.Graph.{step_value}
use Rattle.seq_theory.specs.Rows.{no_value, known_up}
use Rattle.seq_inst.specs.Members.{members}
use Rattle.seq_inst.specs.Instances.{problem_of}
use Rattle.seq_graph.specs.declared.node.Split.{Split}
use Rattle.seq_core.specs.RowsOf.{rows_of as rows_from}
use Rattle.seq_graph.specs.Known.{group_at, row_at}
use Rattle.seq_graph.proofs.ChoiceLaws.{least_value-more}
use Rattle.seq_graph.proofs.CountLaws.{kept-read}
use Rattle.seq_graph.proofs.SplitLaws.{split-at, splits-read}
use Rattle.seq_graph.proofs.choice.least_up.Goals as goal

pub up_sum-requires-clause-parts : goal.up_sum-requires-clause-parts
up_sum-requires-clause-parts c =
    let s = c.args.graph.now in
    let p = problem_of c.args.inst.now in
    let g = members (group_at s.rows.items c.args.place) in
    let kept = kept-read p s.numbers s.rows.items s.nodes.items s.counts.items c.requires.known c.args.place c.index.result.now c.requires.place c.index.ensures in
    (split-at p s.numbers s.rows.items (row_at s.rows.items c.args.place) c.index.result.now c.as_slice-splits.result.now kept c.as_slice-splits.ensures.value c.loop-split.split-index _ c.loop-split-test.true).parts

pub up_sum-requires-clause-there : goal.up_sum-requires-clause-there
up_sum-requires-clause-there c =
    let s = c.args.graph.now in
    let p = problem_of c.args.inst.now in
    let g = members (group_at s.rows.items c.args.place) in
    let kept = kept-read p s.numbers s.rows.items s.nodes.items s.counts.items c.requires.known c.args.place c.index.result.now c.requires.place c.index.ensures in
    (split-at p s.numbers s.rows.items (row_at s.rows.items c.args.place) c.index.result.now c.as_slice-splits.result.now kept c.as_slice-splits.ensures.value c.loop-split.split-index _ c.loop-split-test.true).there

pub loop-split-preserved : goal.loop-split-preserved
loop-split-preserved c =
    let s = c.args.graph.now in
    let p = problem_of c.args.inst.now in
    let g = members (group_at s.rows.items c.args.place) in
    let kept = kept-read p s.numbers s.rows.items s.nodes.items s.counts.items c.requires.known c.args.place c.index.result.now c.requires.place c.index.ensures in
    let xs = c.as_slice-splits.result.now in
    let i = c.loop-split.split-index in
    let split : Split = get_or xs i (record { test = 0; pass = 0; fail = 0 }) in
    let f = step_value p (known_up p (rows_from s.rows.items)) g in
    c.lesser_of-least.ensures
    ∙ least_value-more f no_value c.loop-split.least split.test (map (λ (x : Split). x.test) (take i xs)) (map (λ (x : Split). x.test) (take (i + 1) xs)) c.loop-split.invariant
    (map_more (λ (x : Split). x.test) xs i (record { test = 0; pass = 0; fail = 0 }) c.loop-split-test.true) c.up_sum.result c.up_sum.ensures

pub returns : goal.returns
returns c =
    let s = c.args.graph.now in
    let p = problem_of c.args.inst.now in
    let r = row_at s.rows.items c.args.place in
    let g = members r.group in
    let xs = c.as_slice-splits.result.now in
    let v = step_value p (known_up p (rows_from s.rows.items)) g in
    let long = c.requires.known.kept_are.as_many in
    let place = c.requires.place in
    let read = splits-read s.nodes.items c.args.place c.index.result.now (omega arith) c.index.ensures in
    c.loop-split.invariant
    ∙ ap (λ l. least_of (no_value ∷ filter_map v (map (λ (x : Split). x.test) l))) (take_all c.loop-split.split-index xs c.loop-split-test.false ∙ c.as_slice-splits.ensures.value ∙ sym read)

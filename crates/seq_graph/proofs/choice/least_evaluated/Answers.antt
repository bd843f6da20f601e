use Rattle.std.proofs.Common.{◌+◌, arith, sym, ap, subst, get_or, take, take_all, Some, ◌∙◌}
use Rattle.std.proofs.lemmas.List.{take_more}
use Rattle.seq_theory.specs.Bound.{step_sum}
use Rattle.seq_theory.specs.Rows.{known_low}
use Rattle.seq_inst.specs.Members.{members}
use Rattle.seq_inst.specs.Instances.{problem_of}
use Rattle.seq_graph.specs.declared.node.Split.{Split}
use Rattle.seq_core.specs.RowsOf.{rows_of as rows_from}
use Rattle.seq_graph.specs.Known.{group_at, row_at}
use Rattle.seq_graph.specs.Choice.{IsChoice}
use Rattle.seq_graph.proofs.ChoiceLaws.{choice-more}
use Rattle.seq_graph.proofs.CountLaws.{kept-read}
use Rattle.seq_graph.proofs.SplitLaws.{split-at, splits-read}
use Rattle.seq_graph.proofs.choice.least_evaluated.Goals as goal

pub low_sum-sum-requires-clause-parts : goal.low_sum-sum-requires-clause-parts
low_sum-sum-requires-clause-parts c =
    let s = c.args.graph.now in
    let p = problem_of c.args.inst.now in
    let kept = kept-read p s.numbers s.rows.items s.nodes.items s.counts.items c.requires.known c.args.place c.index.result.now c.requires.place c.index.ensures in
    (split-at p s.numbers s.rows.items (row_at s.rows.items c.args.place) c.index.result.now c.as_slice-splits.result.now kept c.as_slice-splits.ensures.value c.loop-split.split-index _ c.loop-split-test.true).parts

pub low_sum-sum-requires-clause-there : goal.low_sum-sum-requires-clause-there
low_sum-sum-requires-clause-there c =
    let s = c.args.graph.now in
    let p = problem_of c.args.inst.now in
    let kept = kept-read p s.numbers s.rows.items s.nodes.items s.counts.items c.requires.known c.args.place c.index.result.now c.requires.place c.index.ensures in
    (split-at p s.numbers s.rows.items (row_at s.rows.items c.args.place) c.index.result.now c.as_slice-splits.result.now kept c.as_slice-splits.ensures.value c.loop-split.split-index _ c.loop-split-test.true).there

pub loop-split-preserved : goal.loop-split-preserved
loop-split-preserved c =
    let s = c.args.graph.now in
    let p = problem_of c.args.inst.now in
    let xs = c.as_slice-splits.result.now in
    let i = c.loop-split.split-index in
    let none : Split = record { test = 0; pass = 0; fail = 0 } in
    let f = step_sum p (known_low p (rows_from s.rows.items)) (members (group_at s.rows.items c.args.place)) in
    subst (IsChoice f (take (i + 1) xs)) (ap (λ n. Some n) (sym c.choose.ensures))
    (choice-more f (take i xs) (take (i + 1) xs) (get_or xs i none) c.low_sum-sum.result c.loop-split.chosen c.loop-split.invariant (take_more xs i none c.loop-split-test.true) c.low_sum-sum.ensures)

pub returns : goal.returns
returns c =
    let s = c.args.graph.now in
    let p = problem_of c.args.inst.now in
    let xs = c.as_slice-splits.result.now in
    let f = step_sum p (known_low p (rows_from s.rows.items)) (members (group_at s.rows.items c.args.place)) in
    let long = c.requires.known.kept_are.as_many in
    let place = c.requires.place in
    let read = splits-read s.nodes.items c.args.place c.index.result.now (omega arith) c.index.ensures in
    subst (λ l. IsChoice f l c.loop-split.chosen) (take_all c.loop-split.split-index xs c.loop-split-test.false ∙ c.as_slice-splits.ensures.value ∙ sym read) c.loop-split.invariant

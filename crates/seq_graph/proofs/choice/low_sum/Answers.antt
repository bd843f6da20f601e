use Rattle.std.proofs.Common.{◌∙◌, sym, ap, subst}
use Rattle.seq_graph.specs.Sums.{counted_sum, IsCountable}
use Rattle.seq_graph.proofs.CountLaws.{countable, counted-is}
use Rattle.seq_graph.proofs.choice.low_sum.Goals as goal

pub sum_of-requires : goal.sum_of-requires
sum_of-requires c =
    let s = c.args.graph.now in
    let inst = c.args.inst.now in
    subst (λ l. IsCountable inst.costs.items c.index.result.now.weight l c.args.split) (sym c.as_slice.ensures.value)
    (countable inst s.numbers s.rows.items s.nodes.items s.counts.items c.requires.known c.args.place c.requires.place c.args.split c.index.result.now c.requires.parts c.requires.there c.index.ensures)

pub returns : goal.returns
returns c =
    let s = c.args.graph.now in
    let inst = c.args.inst.now in
    c.sum_of.ensures ∙ ap (λ l. counted_sum inst.costs.items c.index.result.now.weight l c.args.split) c.as_slice.ensures.value
    ∙ counted-is inst s.numbers s.rows.items s.nodes.items s.counts.items c.requires.known c.args.place c.requires.place c.args.split c.index.result.now c.requires.parts c.index.ensures

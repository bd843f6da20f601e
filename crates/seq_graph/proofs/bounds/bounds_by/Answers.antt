use Rattle.std.proofs.Common.{◌∙◌, ap, min}
use Rattle.seq_graph.proofs.TightenLaws.{most, allow, right, closes-below}
use Rattle.seq_graph.proofs.bounds.bounds_by.Goals as goal

pub returns-clause-low : goal.returns-clause-low
returns-clause-low c =
    let s = c.args.graph.now in
    most c.args.inst.now s.numbers s.rows.items s.nodes.items s.counts.items c.requires.known c.args.place c.requires.place c.index.result.now c.index.ensures c.args.least.test c.args.least.sum c.args.least.up c.max-low.result c.min-up.result
    c.requires.test c.requires.sum c.max-low.ensures c.requires.up (c.min-up.ensures ∙ ap (λ n. min n c.args.least.up) c.least_up.ensures)

pub returns-clause-allowed : goal.returns-clause-allowed
returns-clause-allowed c =
    let s = c.args.graph.now in
    allow c.args.inst.now s.numbers s.rows.items s.nodes.items s.counts.items c.requires.known c.args.place c.requires.place c.index.result.now c.index.ensures c.args.least.test c.args.least.sum c.args.least.up c.max-low.result c.min-up.result
    c.requires.test c.requires.sum c.max-low.ensures c.requires.up (c.min-up.ensures ∙ ap (λ n. min n c.args.least.up) c.least_up.ensures)

pub returns-clause-right : goal.returns-clause-right
returns-clause-right c =
    let s = c.args.graph.now in
    right c.args.inst.now s.numbers s.rows.items s.nodes.items s.counts.items c.requires.known c.args.place c.requires.place c.index.result.now c.index.ensures c.args.least.test c.args.least.sum c.args.least.up c.max-low.result c.min-up.result
    c.requires.test c.requires.sum c.max-low.ensures c.requires.up (c.min-up.ensures ∙ ap (λ n. min n c.args.least.up) c.least_up.ensures)

pub returns-clause-closes : goal.returns-clause-closes
returns-clause-closes c =
    let s = c.args.graph.now in
    closes-below c.args.inst.now s.numbers s.rows.items s.nodes.items s.counts.items c.requires.known c.args.place c.requires.place c.index.result.now c.index.ensures c.args.least.test c.args.least.sum c.args.least.up c.max-low.result c.min-up.result
    c.requires.test c.requires.sum c.max-low.ensures c.requires.up (c.min-up.ensures ∙ ap (λ n. min n c.args.least.up) c.least_up.ensures)

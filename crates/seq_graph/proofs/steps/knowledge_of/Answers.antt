use Rattle.seq_graph.proofs.StepLaws.{unknown-counted, open-counted, end-counted, closed-counted}
use Rattle.seq_graph.proofs.steps.knowledge_of.Goals as goal

pub returns-then-count : goal.returns-then-count
returns-then-count c = λ part has.
    let s = c.args.graph.now in
    unknown-counted c.args.inst.now s.numbers s.rows.items s.nodes.items s.counts.items c.requires.known part c.args.number c.index-count.result.now has c.index-count.ensures c.in-None.is c.if-count.true

pub returns-else-count : goal.returns-else-count
returns-else-count c = λ part has.
    let s = c.args.graph.now in
    end-counted c.args.inst.now s.numbers s.rows.items s.nodes.items s.counts.items c.requires.known part c.args.number c.index-count.result.now has c.index-count.ensures c.in-None.is c.if-count.false

pub returns-then-count-2 : goal.returns-then-count-2
returns-then-count-2 c = λ part has.
    let s = c.args.graph.now in
    closed-counted c.args.inst.now s.numbers s.rows.items s.nodes.items s.counts.items c.requires.known part c.args.number c.index-count.result.now c.in-Some.place has c.index-count.ensures c.in-Some.is c.if-count-2.true

pub returns-else-count-2 : goal.returns-else-count-2
returns-else-count-2 c = λ part has.
    let s = c.args.graph.now in
    open-counted c.args.inst.now s.numbers s.rows.items s.nodes.items s.counts.items c.requires.known part c.args.number c.index-count.result.now c.in-Some.place has c.index-count.ensures c.in-Some.is c.if-count-2.false

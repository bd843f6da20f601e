use Rattle.seq_graph.proofs.ChoosingLaws.{splits-at, parts-at}
use Rattle.seq_graph.proofs.choosing.first_candidate.Goals as goal

pub qualify-next-requires-clause-parts : goal.qualify-next-requires-clause-parts
qualify-next-requires-clause-parts c =
    let s = c.args.graph.now in
    parts-at c.args.inst.now s.numbers s.rows.items s.nodes.items s.counts.items c.requires.known c.args.place c.requires.place c.index.result.now c.as_slice-splits.result.now c.loop-split.split-index _ c.index.ensures c.as_slice-splits.ensures.value c.loop-split-test.true

pub qualify-next-requires-clause-splits : goal.qualify-next-requires-clause-splits
qualify-next-requires-clause-splits c =
    let s = c.args.graph.now in
    splits-at c.args.inst.now s.numbers s.rows.items s.nodes.items s.counts.items c.requires.known c.args.place c.requires.place c.index.result.now c.as_slice-splits.result.now c.loop-split.split-index _ c.index.ensures c.as_slice-splits.ensures.value c.loop-split-test.true

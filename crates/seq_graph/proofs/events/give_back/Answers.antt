use Rattle.std.proofs.Common.{refl}
use Rattle.seq_graph.proofs.CountChanges.{fitted-known}
use Rattle.seq_graph.proofs.events.give_back.Goals as goal

pub returns-clause-known : goal.returns-clause-known
returns-clause-known c =
    let s = c.args.graph.now in
    let k = c.index_mut-kept.result.now in
    fitted-known c.args.inst.now s.numbers s.rows.items s.nodes.items s.counts.items c.requires.known c.args.place c.requires.place k c.index_mut-kept.ensures.value
    (record { number = k.number; weight = k.weight; bound = k.bound; capped = k.capped; most = k.most; splits = c.shrink_to_fit.new.self; waiting = c.shrink_to_fit-2.new.self }) refl refl refl refl refl c.shrink_to_fit.ensures.items c.shrink_to_fit-2.ensures.items

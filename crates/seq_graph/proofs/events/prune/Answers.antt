use Rattle.std.proofs.Common.{◌∙◌, sym, ap, subst, refl}
use Rattle.std.specs.Prelude.{All, filter, nat_le}
use Rattle.std.proofs.lemmas.List.{get_or_read}
use Rattle.seq_inst.specs.declared.outcome.Row.{Row}
use Rattle.seq_graph.specs.declared.node.Split.{Split}
use Rattle.seq_graph.specs.Known.{no_row}
use Rattle.seq_graph.specs.Sums.{counted_sum, IsCountable}
use Rattle.seq_graph.proofs.CountChanges.{all-countable, thinned-known}
use Rattle.seq_graph.proofs.events.prune.Goals as goal

pub leave_out-requires : goal.leave_out-requires
leave_out-requires c =
    let s = c.args.graph.now in
    let inst = c.args.inst.now in
    let k = c.index_mut-kept.result.now in
    subst (λ l. All (IsCountable inst.costs.items k.weight l) k.splits.items) (sym c.as_slice.ensures.value) (all-countable inst s.numbers s.rows.items s.nodes.items s.counts.items c.requires.known c.args.place c.requires.place k c.index_mut-kept.ensures.value)

pub returns-clause-known : goal.returns-clause-known
returns-clause-known c =
    let s = c.args.graph.now in
    let inst = c.args.inst.now in
    let k = c.index_mut-kept.result.now in
    let up = c.index.result.now.up in
    let read = get_or_read s.rows.items c.args.place c.index.result.now c.requires.place c.index.ensures no_row in
    thinned-known inst s.numbers s.rows.items s.nodes.items s.counts.items c.requires.known c.args.place c.requires.place k c.index_mut-kept.ensures.value
    (record { number = k.number; weight = k.weight; bound = k.bound; capped = k.capped; most = k.most; splits = c.leave_out.new.splits; waiting = c.leave_out_waiting.new.waiting }) up (ap (λ (r : Row). r.up) read) refl refl refl refl refl
    (c.leave_out.ensures ∙ ap (λ l. filter (λ (x : Split). nat_le (counted_sum inst.costs.items k.weight l x) up) k.splits.items) c.as_slice.ensures.value) c.leave_out_waiting.ensures

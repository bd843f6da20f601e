use Rattle.std.proofs.Common.{◌≡◌, ◌<◌, ◌+◌, ◌∙◌, length, set, slice_index, sym, ap, arith, subst}
use Rattle.std.proofs.lemmas.List.{get_or_read}
use Rattle.seq_inst.specs.Instances.{problem_of}
use Rattle.seq_theory.proofs.CountedLaws.{counted-length, counted-below}
use Rattle.seq_core.specs.Settled.{groups_in, size_at, settled_row, AreSettledBelow, AreSettling, IsAmongFirst, IsBySize}
use Rattle.seq_graph.specs.Known.{row_at}
use Rattle.seq_graph.proofs.settling.settle.Goals as goal

pub loop-turn-init : goal.loop-turn-init
loop-turn-init c = record {
  known = c.requires.known;
  sound = c.requires.sound;
  settling = c.turns_settle.ensures.start c.args.inst.now (length c.args.graph.now.rows.items) c.args.graph.now.rows.items c.in_ok-order.order.items c.requires.sound;
}

pub settle_row-requires-clause-place : goal.settle_row-requires-clause-place
settle_row-requires-clause-place c =
    let rows = c.args.graph.now.rows.items in
    let order = c.in_ok-order.order.items in
    let by = subst (λ l. IsBySize l order) c.as_slice.ensures.value c.in_ok-order.ensures in
    let many = counted-length (length rows) order by.each_once in
    let long = c.loop-turn.invariant.settling.many in
    let at = get_or_read order c.loop-turn.turn c.index.result.now (omega arith) c.index.ensures 0 in
    let there = counted-below (length rows) order by.each_once c.loop-turn.turn (omega arith) in
    omega arith

pub settle_row-requires-clause-below : goal.settle_row-requires-clause-below
settle_row-requires-clause-below c =
    let rows = c.args.graph.now.rows.items in
    let now = c.loop-turn.graph.rows.items in
    let order = c.in_ok-order.order.items in
    let turn = c.loop-turn.turn in
    let by = subst (λ l. IsBySize l order) c.as_slice.ensures.value c.in_ok-order.ensures in
    let lt : turn < length order = omega arith in
    let at : c.index.result.now ≡ slice_index order turn = get_or_read order turn c.index.result.now lt c.index.ensures 0 in
    subst (λ k. AreSettledBelow (problem_of c.args.inst.now) now (size_at now k)) (sym at) (c.turns_settle.ensures.next (problem_of c.args.inst.now) rows now order turn by lt c.loop-turn.invariant.settling).0

pub loop-turn-preserved : goal.loop-turn-preserved
loop-turn-preserved c =
    let p = problem_of c.args.inst.now in
    let rows = c.args.graph.now.rows.items in
    let now = c.loop-turn.graph.rows.items in
    let order = c.in_ok-order.order.items in
    let turn = c.loop-turn.turn in
    let by = subst (λ l. IsBySize l order) c.as_slice.ensures.value c.in_ok-order.ensures in
    let lt : turn < length order = omega arith in
    let at : c.index.result.now ≡ slice_index order turn = get_or_read order turn c.index.result.now lt c.index.ensures 0 in
    record {
      known = c.settle_row.ensures.known;
      sound = c.settle_row.ensures.sound;
      settling = subst (λ l. AreSettling p rows l (IsAmongFirst order (turn + 1))) (sym (c.settle_row.ensures.rows ∙ ap (λ k. set now k (settled_row p (groups_in now) (row_at now k))) at))
          (c.turns_settle.ensures.next p rows now order turn by lt c.loop-turn.invariant.settling).1;
    }

pub returns-clause-rows : goal.returns-clause-rows
returns-clause-rows c =
    let rows = c.args.graph.now.rows.items in
    let order = c.in_ok-order.order.items in
    let by = subst (λ l. IsBySize l order) c.as_slice.ensures.value c.in_ok-order.ensures in
    let last : c.loop-turn.turn ≡ length order = omega arith in
    c.turns_settle.ensures.end (problem_of c.args.inst.now) rows c.loop-turn.graph.rows.items order by (subst (λ k. AreSettling (problem_of c.args.inst.now) rows c.loop-turn.graph.rows.items (IsAmongFirst order k)) last c.loop-turn.invariant.settling)

use Rattle.std.proofs.Common.{◌≡◌, ◌<◌, ◌+◌, ◌∙◌, sym, ap, arith, subst, length, slice_index}
use Rattle.std.proofs.lemmas.List.{get_or_read}
use Rattle.seq_inst.specs.Instances.{problem_of}
use Rattle.seq_theory.proofs.CountedLaws.{counted-length, counted-below}
use Rattle.seq_core.specs.Tables.{Table}
use Rattle.seq_core.specs.Allowed.{tightened}
use Rattle.seq_core.specs.Settled.{IsSettledTo}
use Rattle.seq_core.proofs.SettleSteps.{settled-none, settled-next, settled-end}
use Rattle.seq_core.proofs.settling.settled.Goals as goal

pub loop-turn-init : goal.loop-turn-init
loop-turn-init c = settled-none c.args.inst.now c.args.rows.now c.in_ok-core.core.rows c.in_ok-order.order.items c.requires c.in_ok-core.ensures

pub settle_row-requires-clause-there : goal.settle_row-requires-clause-there
settle_row-requires-clause-there c =
    let rows = c.args.rows.now in
    let by = c.in_ok-order.ensures in
    let many = counted-length (length rows) c.in_ok-order.order.items by.each_once in
    let long = c.loop-turn.invariant.settling.many in
    let at = get_or_read c.in_ok-order.order.items c.loop-turn.turn c.index.result.now (omega arith) c.index.ensures 0 in
    let below = counted-below (length rows) c.in_ok-order.order.items by.each_once c.loop-turn.turn (omega arith) in
    omega arith

pub loop-turn-preserved : goal.loop-turn-preserved
loop-turn-preserved c =
    let inst = c.args.inst.now in
    let p = problem_of inst in
    let rows = c.args.rows.now in
    let order = c.in_ok-order.order.items in
    let t = c.loop-turn.core in
    let turn = c.loop-turn.turn in
    let by = c.in_ok-order.ensures in
    let many = counted-length (length rows) order by.each_once in
    let lt : turn < length order = omega arith in
    let at : c.index.result.now ≡ slice_index order turn = get_or_read order turn c.index.result.now lt c.index.ensures 0 in
    subst (λ l. IsSettledTo p rows l order (turn + 1)) (sym (ap (λ (x : Table). x.rows) c.settle_row.ensures ∙ ap (tightened p t.rows) at))
    (settled-next inst rows t.rows order turn by lt c.loop-turn.invariant)

pub returns : goal.returns
returns c =
    let rows = c.args.rows.now in
    let order = c.in_ok-order.order.items in
    let by = c.in_ok-order.ensures in
    settled-end (problem_of c.args.inst.now) rows c.loop-turn.core.rows order c.loop-turn.turn by (omega arith) c.loop-turn.invariant

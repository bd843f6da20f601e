use Rattle.std.proofs.Common.{◌∙◌, ap, arith, inr}
use Rattle.seq_inst.specs.Members.{members}
use Rattle.seq_work.proofs.Few.{most-rows}
use Rattle.seq_work.proofs.TurnLaws.{worked-none}
use Rattle.seq_work.proofs.RunLaws.{covers-itself, covers-on, left-few, closed-known}
use Rattle.seq_work.proofs.work.turns.Goals as goal

pub turns-init : goal.turns-init
turns-init g c =
    let r = c.requires.ready in
    let l = c.args.local.now in
    let few = left-few g.N.Naming.words.limit l.graph.rows.items r.limit (most-rows c.args.seat.now.view g.N.Naming.words.limit l.graph.rows.items l.places.items r.of.sized r.standing r.graph.rows_are.distinct) in
    record {
      ready = r;
      covers = covers-itself c.args.seat.now.view;
      some = c.requires.some;
      first = c.requires.first;
      turns = omega arith;
    }

pub turns-preserved : goal.turns-preserved
turns-preserved g c =
    let i = c.turns.invariant in
    let moved = worked-none c.args.shared.now.inst g.N.Naming.words c.turn-in-turns.new.seat c.turns.local c.turn-in-turns.new.local c.turn-in-turns.result c.in_default.not-Some c.turn-in-turns.ensures.worked in
    let some = i.some in
    let kept = moved.keeps 0 (omega arith) in
    let there = kept.0 in
    let less = moved.less in
    let count = i.turns in
    record {
      ready = c.turn-in-turns.ensures.ready;
      covers = covers-on _ _ _ c.turn-in-turns.ensures.covers i.covers;
      some = omega arith;
      first = ap members kept.1 ∙ i.first;
      turns = omega arith;
    }

pub returns-clause-worked : goal.returns-clause-worked
returns-clause-worked g c =
    let i = c.turns.invariant in
    inr (closed-known c.args.shared.now.inst g.N.Naming.words c.turns.seat c.turns.local i.ready i.some i.first c.index.result.now c.index-in-turns.result.now c.index.ensures c.index-in-turns.ensures c.turns-test.false)

pub returns-in-Some-clause-worked : goal.returns-in-Some-clause-worked
returns-in-Some-clause-worked g c = c.in-Some.ensures.worked

pub returns-in-Some-clause-covers : goal.returns-in-Some-clause-covers
returns-in-Some-clause-covers g c = covers-on _ _ _ c.turn-in-turns.ensures.covers c.turns.invariant.covers

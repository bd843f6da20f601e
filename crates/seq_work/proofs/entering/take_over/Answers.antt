use Rattle.std.proofs.Common.{◌-◌, length, arith}
use Rattle.seq_inst.specs.Members.{members}
use Rattle.seq_work.specs.declared.local.Local.{Local}
use Rattle.seq_work.specs.Works.{StandsAt}
use Rattle.seq_work.proofs.Zips.{zip-length}
use Rattle.seq_work.proofs.Rooms.{less-room}
use Rattle.seq_work.proofs.Few.{few-rows}
use Rattle.seq_work.proofs.BackingLaws.{graph-listed}
use Rattle.seq_work.proofs.entering.take_over.Goals as goal

pub learn-requires-clause-few : goal.learn-requires-clause-few
learn-requires-clause-few c =
    let r = c.requires.ready in
    let l = c.args.local.now in
    let few = few-rows c.args.seat.now.view c.args.words.now.limit l.graph.rows.items l.places.items (members c.args.group.now) c.args.place (r.of.sized) r.standing r.graph.rows_are.distinct c.requires.new c.requires.there.0 c.requires.group in
    let most = r.limit in
    omega arith

pub learn-requires-clause-room : goal.learn-requires-clause-room
learn-requires-clause-room c =
    let r = c.requires.ready in
    let l = c.args.local.now in
    let few = few-rows c.args.seat.now.view c.args.words.now.limit l.graph.rows.items l.places.items (members c.args.group.now) c.args.place (r.of.sized) r.standing r.graph.rows_are.distinct c.requires.new c.requires.there.0 c.requires.group in
    less-room 1 (c.args.words.now.limit - length l.graph.rows.items) l.graph (omega arith) r.room

pub push_reserved-requires : goal.push_reserved-requires
push_reserved-requires c =
    let r = c.requires.ready in
    let l = c.args.local.now in
    let few = few-rows c.args.seat.now.view c.args.words.now.limit l.graph.rows.items l.places.items (members c.args.group.now) c.args.place (r.of.sized) r.standing r.graph.rows_are.distinct c.requires.new c.requires.there.0 c.requires.group in
    let long = zip-length (StandsAt c.args.seat.now.view) l.graph.rows.items l.places.items r.standing in
    let room = r.places_room in
    let len = l.places.ok.0 in
    omega arith

pub returns-clause-room : goal.returns-clause-room
returns-clause-room c =
    let r = c.requires.ready in
    let l = c.args.local.now in
    few-rows c.args.seat.now.view c.args.words.now.limit l.graph.rows.items l.places.items (members c.args.group.now) c.args.place (r.of.sized) r.standing r.graph.rows_are.distinct c.requires.new c.requires.there.0 c.requires.group

pub returns-clause-ready : goal.returns-clause-ready
returns-clause-ready c =
    let r = c.requires.ready in
    let l = c.args.local.now in
    let few = few-rows c.args.seat.now.view c.args.words.now.limit l.graph.rows.items l.places.items (members c.args.group.now) c.args.place (r.of.sized) r.standing r.graph.rows_are.distinct c.requires.new c.requires.there.0 c.requires.group in
    let m : Local = record { number = l.number; graph = c.learn.new.graph; places = c.push_reserved.new.self } in
    graph-listed c.args.inst.now c.args.words.now c.args.seat.now l r m c.args.group.now c.args.place c.args.bounds.low c.args.bounds.up c.learn.ensures.known c.learn.ensures.room few c.learn.ensures.rows c.push_reserved.ensures.items c.push_reserved.ensures.capacity
    c.requires.there c.requires.group c.requires.seen.low c.requires.seen.up

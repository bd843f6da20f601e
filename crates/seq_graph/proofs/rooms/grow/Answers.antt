use Rattle.std.proofs.Common.{length, ap, arith, vec_capacity}
use Rattle.seq_graph.proofs.rooms.grow.Goals as goal

pub returns-clause-room : goal.returns-clause-room
returns-clause-room c =
    let e = c.reserve_numbers.ensures in
    let o = c.in_ok-reserve_numbers.ensures in
    let rows = ap (λ v. length v.items) e.rows in
    let rows_room = ap vec_capacity e.rows in
    let nodes = ap (λ v. length v.items) e.nodes in
    let nodes_room = ap vec_capacity e.nodes in
    let a = c.in_ok-reserve.ensures.ok in
    let a1 = c.reserve.new.self.ok.0 in
    let b = c.in_ok-reserve-2.ensures.ok in
    let b1 = c.reserve-2.new.self.ok.0 in
    let h = o.held in
    record {
      rows = omega arith;
      nodes = omega arith;
      numbers = omega arith;
      counts = o.counts;
    }

pub returns-in_err-reserve_numbers-clause-keeps : goal.returns-in_err-reserve_numbers-clause-keeps
returns-in_err-reserve_numbers-clause-keeps c =
    λ more room.
    let rows = ap length c.reserve.ensures.items in
    let rows_room = c.reserve.ensures.capacity in
    let nodes = ap length c.reserve-2.ensures.items in
    let nodes_room = c.reserve-2.ensures.capacity in
    let x = room.rows in
    let y = room.nodes in
    c.reserve_numbers.ensures.keeps more (record {
      rows = omega arith;
      nodes = omega arith;
      numbers = room.numbers;
      counts = room.counts;
    })

pub returns-clause-keeps : goal.returns-clause-keeps
returns-clause-keeps c =
    λ more room.
    let rows = ap length c.reserve.ensures.items in
    let rows_room = c.reserve.ensures.capacity in
    let nodes = ap length c.reserve-2.ensures.items in
    let nodes_room = c.reserve-2.ensures.capacity in
    let x = room.rows in
    let y = room.nodes in
    c.reserve_numbers.ensures.keeps more (record {
      rows = omega arith;
      nodes = omega arith;
      numbers = room.numbers;
      counts = room.counts;
    })

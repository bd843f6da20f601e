use Rattle.std.proofs.Common.{◌∙◌, length, ap, arith, vec_capacity}
use Rattle.seq_graph.proofs.graph.Graph.with_room.Goals as goal

pub returns-clause-room : goal.returns-clause-room
returns-clause-room c =
    let e = c.reserve_numbers.ensures in
    let o = c.in_ok-reserve_numbers.ensures in
    let rows = ap (λ v. length v.items) e.rows ∙ ap length c.in_ok-rows.ensures.items in
    let rows_room = ap vec_capacity e.rows ∙ c.in_ok-rows.ensures.exact in
    let nodes = ap (λ v. length v.items) e.nodes ∙ ap length c.in_ok-nodes.ensures.items in
    let nodes_room = ap vec_capacity e.nodes ∙ c.in_ok-nodes.ensures.exact in
    let lists = ap (λ v. length v.items) e.lists in
    let many = c.in_ok-lists.ensures in
    record {
      rows = omega arith;
      nodes = omega arith;
      numbers = o.held;
      counts = o.counts;
    }

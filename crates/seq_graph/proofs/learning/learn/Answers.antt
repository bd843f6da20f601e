use Rattle.std.proofs.Common.{◌∙◌, ◌∷◌, ◌++◌, [], length, length-append, sym, ap, subst, arith}
use Rattle.std.proofs.lemmas.List.{length-map}
use Rattle.std.proofs.lemmas.Option.{slice_get_within}
use Rattle.seq_theory.proofs.RowLaws.{wanted-within}
use Rattle.seq_inst.specs.Instances.{problem_of}
use Rattle.seq_inst.specs.Members.{members}
use Rattle.seq_inst.specs.declared.outcome.Row.{Row}
use Rattle.seq_graph.specs.Known.{AreKnown, count_of}
use Rattle.seq_graph.proofs.NumberLaws.{keeps-long}
use Rattle.seq_graph.proofs.CountLaws.{counts-long}
use Rattle.seq_graph.proofs.CountChanges.{counts-grown, learnt-known}
use Rattle.seq_graph.proofs.RoomLaws.{push-ok}
use Rattle.seq_graph.proofs.learning.learn.Goals as goal

pub of-kept-requires-clause-within : goal.of-kept-requires-clause-within
of-kept-requires-clause-within c = wanted-within (problem_of c.args.inst.now) (members c.args.group.now) c.requires.real.wanted

pub of-kept-requires-clause-held : goal.of-kept-requires-clause-held
of-kept-requires-clause-held c = let h = c.requires.room.numbers in omega arith

pub count_new-requires-clause-fewer : goal.count_new-requires-clause-fewer
count_new-requires-clause-fewer c =
    let s = c.args.graph.now in
    let long = counts-long (problem_of c.args.inst.now) s.numbers s.rows.items s.nodes.items s.counts.items c.requires.known in
    let more = keeps-long s.numbers.groups c.of-kept.new.numbers.groups c.of-kept.ensures.keeps in
    omega arith

pub count_new-requires-clause-room : goal.count_new-requires-clause-room
count_new-requires-clause-room c =
    let same = c.of-kept.ensures.capacity in
    let room = c.requires.room.counts in
    omega arith

pub count_row-requires : goal.count_row-requires
count_row-requires c =
    let s = c.args.graph.now in
    let p = problem_of c.args.inst.now in
    let v = c.of-kept.new.numbers in
    let e = c.of-kept.ensures in
    let grown = counts-grown c.args.inst.now s.numbers v s.rows.items s.nodes.items s.counts.items c.requires.known e.numbers e.keeps c.count_new.new.counts.items c.count_new.ensures.counts in
    let long = ap length grown ∙ length-map v.groups (count_of p s.rows.items) in
    let within = slice_get_within v.groups c.of-kept.result.number _ e.kept.number in
    omega arith

pub returns-clause-known : goal.returns-clause-known
returns-clause-known c =
    let s = c.args.graph.now in
    let p = problem_of c.args.inst.now in
    let g = c.args.group.now in
    let b = c.args.bounds in
    let v = c.of-kept.new.numbers in
    let k = c.of-kept.result in
    let e = c.of-kept.ensures in
    let place = c.len-place.result in
    let more = c.count_new.new.counts.items in
    let row : Row = record { group = g; low = b.low; up = b.up } in
    let room_rows = c.requires.room.rows in
    let room_nodes = c.requires.room.nodes in
    let many_rows = s.rows.ok.0 in
    let many_nodes = s.nodes.ok.0 in
    let rows = push-ok c.push.result s.rows.items c.push.new.self.items row (c.push.ensures.succeeds (omega arith)) c.push.ensures.items in
    let nodes = push-ok c.push-2.result s.nodes.items c.push-2.new.self.items k (c.push-2.ensures.succeeds (omega arith)) c.push-2.ensures.items in
    subst (λ l. AreKnown p v l c.push-2.new.self.items c.count_row.new.counts.items) (sym rows)
    (subst (λ l. AreKnown p v (s.rows.items ++ row ∷ []) l c.count_row.new.counts.items) (sym nodes)
    (subst (λ l. AreKnown p v (s.rows.items ++ row ∷ []) (s.nodes.items ++ k ∷ []) l) (sym c.count_row.ensures.counts)
    (learnt-known c.args.inst.now s.numbers v s.rows.items s.nodes.items s.counts.items c.requires.known e.numbers e.keeps g k more place b.low b.up c.requires.real c.requires.new c.requires.right c.requires.small e.kept c.count_new.ensures.counts (c.len-place.ensures ∙ s.rows.ok.0))))

pub returns-clause-room : goal.returns-clause-room
returns-clause-room c =
    let s = c.args.graph.now in
    let k = c.of-kept.result in
    let row : Row = record { group = c.args.group.now; low = c.args.bounds.low; up = c.args.bounds.up } in
    let e = c.of-kept.ensures in
    let same = e.capacity in
    let one = e.one in
    λ more room.
    let room_rows = room.rows in
    let room_nodes = room.nodes in
    let room_counts = room.counts in
    let room_numbers = room.numbers in
    let many_rows = s.rows.ok.0 in
    let many_nodes = s.nodes.ok.0 in
    let rows = ap length (push-ok c.push.result s.rows.items c.push.new.self.items row (c.push.ensures.succeeds (omega arith)) c.push.ensures.items) ∙ length-append s.rows.items (row ∷ []) in
    let nodes = ap length (push-ok c.push-2.result s.nodes.items c.push-2.new.self.items k (c.push-2.ensures.succeeds (omega arith)) c.push-2.ensures.items) ∙ length-append s.nodes.items (k ∷ []) in
    let rows_room = c.push.ensures.capacity in
    let nodes_room = c.push-2.ensures.capacity in
    let counts = c.count_new.ensures.capacity in
    let counts_same = c.count_row.ensures.capacity in
    record {
      rows = omega arith;
      nodes = omega arith;
      numbers = omega arith;
      counts = omega arith;
    }

pub returns-clause-rows : goal.returns-clause-rows
returns-clause-rows c =
    let s = c.args.graph.now in
    let row : Row = record { group = c.args.group.now; low = c.args.bounds.low; up = c.args.bounds.up } in
    let room_rows = c.requires.room.rows in
    let many_rows = s.rows.ok.0 in
    push-ok c.push.result s.rows.items c.push.new.self.items row (c.push.ensures.succeeds (omega arith)) c.push.ensures.items

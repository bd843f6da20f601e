use Rattle.std.proofs.Common.{◌∙◌, List, [], ◌∷◌, ◌++◌, sym, ap, arith, take, get_or, length}
use Rattle.seq_inst.specs.Members.{members}
use Rattle.seq_core.specs.Mapping.{Placed, Mapping, place_of}
use Rattle.seq_core.specs.Entered.{no_row}
use Rattle.seq_finish.proofs.PlaceLaws.{absent, placed-more, length-placed, length-taken}
use Rattle.seq_finish.proofs.places.index_of.Goals as goal

pub add-requires-clause-absent : goal.add-requires-clause-absent
add-requires-clause-absent c =
    let placed = ap (λ (m : Mapping). m.placed) c.loop-i.invariant in
    ap (λ l. place_of l (members (get_or c.args.rows.now c.loop-i.i no_row).group)) placed ∙ absent 0 c.args.rows.now c.loop-i.i no_row c.loop-i-test.true c.requires.distinct

pub add-requires-clause-room : goal.add-requires-clause-room
add-requires-clause-room c =
    let placed = ap (λ (m : Mapping). length m.placed) c.loop-i.invariant in
    let room = ap (λ (m : Mapping). m.room) c.loop-i.invariant in
    let many = length-placed 0 (take c.loop-i.i c.args.rows.now) in
    let few = length-taken c.args.rows.now c.loop-i.i in
    let lt = c.loop-i-test.true in
    omega arith

pub loop-i-preserved : goal.loop-i-preserved
loop-i-preserved c =
    let room = ap (λ (m : Mapping). m.room) c.loop-i.invariant in
    let placed = ap (λ (m : Mapping). m.placed) c.loop-i.invariant in
    c.add.ensures ∙ ap (λ n. record { room = n; placed = c.loop-i.places.placed ++ record { group = members (get_or c.args.rows.now c.loop-i.i no_row).group; place = c.loop-i.i } ∷ [] }) room
    ∙ ap (λ (l : List Placed). record { room = length c.args.rows.now; placed = l })
    (ap (λ l. l ++ record { group = members (get_or c.args.rows.now c.loop-i.i no_row).group; place = c.loop-i.i } ∷ []) placed ∙ sym (placed-more c.args.rows.now c.loop-i.i no_row c.loop-i-test.true))

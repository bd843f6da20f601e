use Rattle.std.proofs.Common.{◌-◌, ◌≡◌, ◌∙◌, ◌++◌, ◌∷◌, [], length, length-append, get_or, sym, ap, subst, arith, List, ℕ}
use Rattle.std.proofs.Math.Seq.{get_or-append_seam}
use Rattle.std.proofs.lemmas.List.{get_or_read}
use Rattle.seq_theory.specs.Greedy.{greedy_cost}
use Rattle.seq_inst.specs.declared.outcome.Row.{Row}
use Rattle.seq_inst.specs.Members.{members}
use Rattle.seq_inst.specs.Instances.{problem_of}
use Rattle.seq_core.specs.Words.{classes_of}
use Rattle.seq_graph.specs.Known.{no_row}
use Rattle.seq_words.specs.Knowledge.{AreAlone, up_seen}
use Rattle.seq_words.specs.Seats.{Sitting}
use Rattle.seq_work.specs.declared.local.Local.{Local}
use Rattle.seq_work.specs.Works.{StandsAt}
use Rattle.seq_work.proofs.Zips.{zip-length}
use Rattle.seq_work.proofs.Rooms.{less-room}
use Rattle.seq_work.proofs.Few.{few-rows}
use Rattle.seq_work.proofs.Standing.{alone-up, up-heard}
use Rattle.seq_work.proofs.BackingLaws.{seat-stepped, graph-listed}
use Rattle.seq_work.proofs.entering.list.Goals as goal

pub add-requires-clause-few : goal.add-requires-clause-few
add-requires-clause-few c =
    let r = c.requires.ready in
    let l = c.args.local.now in
    let few = few-rows c.args.seat.now.view c.args.words.now.limit l.graph.rows.items l.places.items (members c.args.group.now) c.args.place (r.of.sized) r.standing r.graph.rows_are.distinct c.requires.new c.requires.there.0 c.requires.group in
    let most = r.limit in
    omega arith

pub add-requires-clause-room : goal.add-requires-clause-room
add-requires-clause-room c =
    let r = c.requires.ready in
    let l = c.args.local.now in
    let few = few-rows c.args.seat.now.view c.args.words.now.limit l.graph.rows.items l.places.items (members c.args.group.now) c.args.place (r.of.sized) r.standing r.graph.rows_are.distinct c.requires.new c.requires.there.0 c.requires.group in
    less-room 1 (c.args.words.now.limit - length l.graph.rows.items) l.graph (omega arith) r.room

pub push_reserved-requires : goal.push_reserved-requires
push_reserved-requires c =
    let r = c.requires.ready in
    let l = c.args.local.now in
    let few = few-rows c.args.seat.now.view c.args.words.now.limit l.graph.rows.items l.places.items (members c.args.group.now) c.args.place (r.of.sized) r.standing r.graph.rows_are.distinct c.requires.new c.requires.there.0 c.requires.group in
    let long = zip-length (StandsAt c.args.seat.now.view) l.graph.rows.items l.places.items r.standing in
    let room = r.places_room in
    let len = l.places.ok.0 in
    omega arith

pub returns-clause-room : goal.returns-clause-room
returns-clause-room c =
    let r = c.requires.ready in
    let l = c.args.local.now in
    few-rows c.args.seat.now.view c.args.words.now.limit l.graph.rows.items l.places.items (members c.args.group.now) c.args.place (r.of.sized) r.standing r.graph.rows_are.distinct c.requires.new c.requires.there.0 c.requires.group

pub returns-clause-ready : goal.returns-clause-ready
returns-clause-ready c =
    let inst = c.args.inst.now in
    let words = c.args.words.now in
    let l = c.args.local.now in
    let r = c.requires.ready in
    let place = c.args.place in
    let rows = l.graph.rows.items in
    let greedy = greedy_cost (problem_of inst) (members c.args.group.now) in
    let row : Row = record { group = c.args.group.now; low = 0; up = greedy } in
    let few = few-rows c.args.seat.now.view c.args.words.now.limit l.graph.rows.items l.places.items (members c.args.group.now) c.args.place (r.of.sized) r.standing r.graph.rows_are.distinct c.requires.new c.requires.there.0 c.requires.group in
    let f = c.lower_cap.ensures in
    let seat1 = c.lower_cap.new.seat in
    let alone = subst (λ (s : Sitting). AreAlone s.view) (sym f.learns) (alone-up c.args.seat.now.view place c.lower_cap.result r.alone) in
    let ready = seat-stepped inst words c.args.seat.now l r seat1 f.of f.covers alone in
    let m : Local = record { number = l.number; graph = c.add.new.graph; places = c.push_reserved.new.self } in
    let added = c.add.ensures.rows in
    let node : c.len-node.result ≡ length rows = c.len-node.ensures ∙ l.graph.rows.ok.0 in
    let last : get_or (rows ++ row ∷ []) (length rows) no_row ≡ row = get_or-append_seam rows row [] no_row in
    let long = ap length added in
    let read : c.index.result.now ≡ get_or c.add.new.graph.rows.items c.len-node.result no_row = get_or_read c.add.new.graph.rows.items c.len-node.result c.index.result.now (omega (arith, length-append rows (row ∷ []))) c.index.ensures no_row in
    let up_is : c.index.result.now.up ≡ greedy = ap (λ (x : Row). x.up) (read ∙ ap (λ xs. get_or xs c.len-node.result no_row) added ∙ ap (λ n. get_or (rows ++ row ∷ []) n no_row) node ∙ last) in
    let seen : up_seen place seat1.view ≡ c.lower_cap.result = ap (λ (s : Sitting). up_seen place s.view) f.learns ∙ up-heard c.args.seat.now.view place c.lower_cap.result c.requires.there.0 in
    let reached = f.reached in
    let covers = f.covers place in
    graph-listed inst words seat1 l ready m c.args.group.now place 0 greedy c.add.ensures.known c.add.ensures.room few added c.push_reserved.ensures.items c.push_reserved.ensures.capacity
    (covers.there c.requires.there.0, ap (λ (b : List ℕ). length b) (covers.bits c.requires.there.1) ∙ c.requires.there.1) (ap classes_of (covers.bits c.requires.there.1) ∙ c.requires.group) (omega arith) (omega arith)

use Rattle.std.proofs.Common.{Vec, Global, ◌≡◌, ◌∙◌, set, refl, sym, ap, subst, arith}
use Rattle.std.specs.Prelude.{slice_index}
use Rattle.std.proofs.lemmas.List.{get_or_read}
use Rattle.seq_theory.specs.Tree.{IsLeast}
use Rattle.seq_inst.specs.declared.outcome.Row.{Row}
use Rattle.seq_inst.specs.Members.{members}
use Rattle.seq_inst.specs.Instances.{problem_of}
use Rattle.seq_graph.specs.Known.{heard, row_at, group_at as row_group}
use Rattle.seq_words.specs.Knowledge.{AreAlone, low_seen, up_seen}
use Rattle.seq_words.specs.Seats.{Sitting}
use Rattle.seq_work.specs.declared.local.Local.{Local}
use Rattle.seq_work.specs.Works.{StandsAt}
use Rattle.seq_work.proofs.Zips.{zip-length}
use Rattle.seq_work.proofs.Standing.{alone-low, alone-up, low-heard, up-heard}
use Rattle.seq_work.proofs.BackingLaws.{low-true, up-true, told-is, stands, may-raise, may-cap, seat-stepped, graph-heard}
use Rattle.seq_work.proofs.backing.back_up.Goals as goal

pub index-place-requires : goal.index-place-requires
index-place-requires c =
    let l = c.args.local.now in
    let long = zip-length (StandsAt c.args.seat.now.view) l.graph.rows.items l.places.items c.requires.ready.standing in
    let len = l.places.ok.0 in
    let node = c.requires.node in
    omega arith

pub raise-low-requires-clause-may : goal.raise-low-requires-clause-may
raise-low-requires-clause-may c =
    let l = c.args.local.now in
    let long = zip-length (StandsAt c.args.seat.now.view) l.graph.rows.items l.places.items c.requires.ready.standing in
    let node = c.requires.node in
    let at : c.index-place.result.now ≡ slice_index l.places.items c.args.node = get_or_read l.places.items c.args.node c.index-place.result.now (omega arith) c.index-place.ensures 0 in
    let is = c.backed_up-bounds.ensures.low in
    may-raise c.args.inst.now c.args.words.now c.args.seat.now l c.requires.ready c.knowing_more_allows.ensures c.args.node c.index-place.result.now c.backed_up-bounds.result.low c.requires.node at (omega arith)

pub lower_cap-up-requires-clause-may : goal.lower_cap-up-requires-clause-may
lower_cap-up-requires-clause-may c =
    let l = c.args.local.now in
    let long = zip-length (StandsAt c.args.seat.now.view) l.graph.rows.items l.places.items c.requires.ready.standing in
    let node = c.requires.node in
    let place = c.index-place.result.now in
    let at : place ≡ slice_index l.places.items c.args.node = get_or_read l.places.items c.args.node place (omega arith) c.index-place.ensures 0 in
    let e = c.raise-low.ensures in
    let alone = subst (λ (s : Sitting). AreAlone s.view) (sym e.learns) (alone-low c.args.seat.now.view place c.raise-low.result c.requires.ready.alone) in
    let ready = seat-stepped c.args.inst.now c.args.words.now c.args.seat.now l c.requires.ready c.raise-low.new.seat e.of e.covers alone in
    may-cap c.args.inst.now c.args.words.now c.raise-low.new.seat l ready c.knowing_more_allows.ensures c.args.node place c.backed_up-bounds.result.up c.requires.node at c.backed_up-bounds.ensures.allowed.up_allowed

pub hear-requires-clause-right : goal.hear-requires-clause-right
hear-requires-clause-right c = λ n is.
    let inst = c.args.inst.now in
    let words = c.args.words.now in
    let l = c.args.local.now in
    let rows = l.graph.rows.items in
    let long = zip-length (StandsAt c.args.seat.now.view) rows l.places.items c.requires.ready.standing in
    let node = c.requires.node in
    let place = c.index-place.result.now in
    let at : place ≡ slice_index l.places.items c.args.node = get_or_read l.places.items c.args.node place (omega arith) c.index-place.ensures 0 in
    let e = c.raise-low.ensures in
    let alone = subst (λ (s : Sitting). AreAlone s.view) (sym e.learns) (alone-low c.args.seat.now.view place c.raise-low.result c.requires.ready.alone) in
    let ready = seat-stepped inst words c.args.seat.now l c.requires.ready c.raise-low.new.seat e.of e.covers alone in
    let g = members (row_group rows c.args.node) in
    let least = subst (λ xs. IsLeast (problem_of inst) (members (row_group xs c.args.node)) n) (ap (λ (v : Vec Row Global). v.items) c.backed_up-bounds.ensures.rows) is in
    let first = subst (StandsAt c.args.seat.now.view (row_at rows c.args.node)) (sym at) (stands inst words c.args.seat.now l c.requires.ready c.args.node c.requires.node) in
    let then = subst (StandsAt c.raise-low.new.seat.view (row_at rows c.args.node)) (sym at) (stands inst words c.raise-low.new.seat l ready c.args.node c.requires.node) in (
      low-true inst c.args.seat.now.view place c.raise-low.result g (told-is inst words c.args.seat.now l c.requires.ready) first.group e.right n least,
      up-true inst c.raise-low.new.seat.view place c.lower_cap-up.result g (told-is inst words c.raise-low.new.seat l ready) then.group c.lower_cap-up.ensures.right n least,
    )

pub returns-clause-ready : goal.returns-clause-ready
returns-clause-ready c =
    let inst = c.args.inst.now in
    let words = c.args.words.now in
    let l = c.args.local.now in
    let rows = l.graph.rows.items in
    let long = zip-length (StandsAt c.args.seat.now.view) rows l.places.items c.requires.ready.standing in
    let node = c.requires.node in
    let place = c.index-place.result.now in
    let at : place ≡ slice_index l.places.items c.args.node = get_or_read l.places.items c.args.node place (omega arith) c.index-place.ensures 0 in
    let e = c.raise-low.ensures in
    let f = c.lower_cap-up.ensures in
    let low = c.raise-low.result in
    let up = c.lower_cap-up.result in
    let seat1 = c.raise-low.new.seat in
    let seat2 = c.lower_cap-up.new.seat in
    let alone1 = subst (λ (s : Sitting). AreAlone s.view) (sym e.learns) (alone-low c.args.seat.now.view place low c.requires.ready.alone) in
    let ready1 = seat-stepped inst words c.args.seat.now l c.requires.ready seat1 e.of e.covers alone1 in
    let alone2 = subst (λ (s : Sitting). AreAlone s.view) (sym f.learns) (alone-up seat1.view place up alone1) in
    let ready2 = seat-stepped inst words seat1 l ready1 seat2 f.of f.covers alone2 in
    let m : Local = record { number = l.number; graph = c.hear.new.graph; places = l.places } in
    let s0 = subst (StandsAt c.args.seat.now.view (row_at rows c.args.node)) (sym at) (stands inst words c.args.seat.now l c.requires.ready c.args.node c.requires.node) in
    let s1 = subst (StandsAt seat1.view (row_at rows c.args.node)) (sym at) (stands inst words seat1 l ready1 c.args.node c.requires.node) in
    let low_is : low_seen place seat1.view ≡ low = ap (λ (s : Sitting). low_seen place s.view) e.learns ∙ low-heard c.args.seat.now.view place low s0.known.0 in
    let up_is : up_seen place seat2.view ≡ up = ap (λ (s : Sitting). up_seen place s.view) f.learns ∙ up-heard seat1.view place up s1.known.0 in
    let grown = (f.covers place).low in
    let same_low = ap (λ q. low_seen q seat2.view) at in
    let same_up = ap (λ q. up_seen q seat2.view) at in
    graph-heard inst words seat2 l ready2 m c.args.node low up c.hear.ensures.known (λ more held. c.hear.ensures.keeps more (c.backed_up-bounds.ensures.keeps more held)) c.requires.node
    (c.hear.ensures.rows ∙ ap (λ xs. set xs c.args.node (heard low up (row_at xs c.args.node))) (ap (λ (v : Vec Row Global). v.items) c.backed_up-bounds.ensures.rows)) refl refl (omega arith) (omega arith)

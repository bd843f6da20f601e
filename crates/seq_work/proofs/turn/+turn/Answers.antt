use Rattle.std.proofs.Common.{Vec, Global, List, length, refl, sym, ap, subst, arith}
use Rattle.seq_theory.specs.Rows.{no_value}
use Rattle.seq_inst.specs.declared.outcome.Row.{Row}
use Rattle.seq_inst.specs.Members.{members}
use Rattle.seq_inst.specs.Instances.{problem_of}
use Rattle.seq_graph.specs.Known.{group_at, Narrows}
use Rattle.seq_graph.specs.Steps.{ClosesBelow}
use Rattle.seq_graph.specs.Walks.{HasMoved}
use Rattle.seq_words.specs.Seats.{Wording}
use Rattle.seq_work.specs.declared.local.Local.{Local}
use Rattle.seq_work.specs.Works.{Ready}
use Rattle.seq_work.proofs.Few.{most-rows}
use Rattle.seq_work.proofs.BackingLaws.{graph-same, seat-stepped}
use Rattle.seq_work.proofs.TurnLaws.{longer, worked-none}
use Rattle.seq_work.proofs.RunLaws.{covers-on}
use Rattle.seq_work.proofs.turn.+turn.Goals as goal

pub returns-in-Full-clause-ready : goal.returns-in-Full-clause-ready
returns-in-Full-clause-ready g t c =
    let inst = c.args.shared.now.inst in
    let words = g.N.Naming.words in
    let l = c.args.local.now in
    let m : Local = record { number = l.number; graph = c.next_step.new.graph; places = l.places } in
    let r = graph-same inst words c.args.seat.now l c.requires.ready m c.next_step.ensures.known c.next_step.ensures.keeps (ap (λ (v : Vec Row Global). v.items) c.next_step.ensures.rows) refl refl in
    let e = c.enter_at-entered.ensures in
    seat-stepped inst words c.args.seat.now m r c.enter_at-entered.new.seat e.of e.covers e.alone

pub take_in-requires-clause-ready : goal.take_in-requires-clause-ready
take_in-requires-clause-ready g t c =
    let inst = c.args.shared.now.inst in
    let words = g.N.Naming.words in
    let l = c.args.local.now in
    let m : Local = record { number = l.number; graph = c.next_step.new.graph; places = l.places } in
    let r = graph-same inst words c.args.seat.now l c.requires.ready m c.next_step.ensures.known c.next_step.ensures.keeps (ap (λ (v : Vec Row Global). v.items) c.next_step.ensures.rows) refl refl in
    let e = c.enter_at-entered.ensures in
    subst (λ (w : Wording). Ready inst w c.enter_at-entered.new.seat m) (sym c.args.shared.now.named) (seat-stepped inst words c.args.seat.now m r c.enter_at-entered.new.seat e.of e.covers e.alone)

pub back_up-requires-clause-node : goal.back_up-requires-clause-node
back_up-requires-clause-node g t c =
    let more = longer c.next_step.new.graph.rows.items c.take_in.new.local.graph.rows.items _ c.take_in.ensures.narrows in
    let same = ap length (ap (λ (v : Vec Row Global). v.items) c.next_step.ensures.rows) in
    let node = c.requires.node in
    omega arith

pub returns-in-At-clause-worked : goal.returns-in-At-clause-worked
returns-in-At-clause-worked g t c =
    let inst = c.args.shared.now.inst in
    let p = problem_of inst in
    let limit = g.N.Naming.words.limit in
    let chosen = c.next_step.new.graph.rows.items in
    let entered = c.take_in.new.local.graph.rows.items in
    let new = c.back_up.new.local.graph.rows.items in
    let row : Row = record { group = c.in-Enter.group; low = 0; up = no_value } in
    let same = ap (λ (w : Wording). w.limit) c.args.shared.now.named in
    let room = c.take_in.ensures.room in
    subst (λ xs. HasMoved p limit xs new) (ap (λ (v : Vec Row Global). v.items) c.next_step.ensures.rows)
    (c.turns_move.ensures.entering inst limit chosen row entered new (omega arith) c.take_in.ensures.ready.graph.rows_are
    c.take_in.ensures.narrows c.back_up.ensures.ready.graph.rows_are c.back_up.ensures.narrows)

pub returns-in_default-clause-worked : goal.returns-in_default-clause-worked
returns-in_default-clause-worked g t c =
    let inst = c.args.shared.now.inst in
    let p = problem_of inst in
    let words = g.N.Naming.words in
    let l = c.args.local.now in
    let m : Local = record { number = l.number; graph = c.next_step.new.graph; places = l.places } in
    let chosen = c.next_step.new.graph.rows.items in
    let turned = c.turn.new.local.graph.rows.items in
    let new = c.back_up-in-Down.new.local.graph.rows.items in
    subst (λ xs. HasMoved p words.limit xs new) (ap (λ (v : Vec Row Global). v.items) c.next_step.ensures.rows)
    (c.turns_move.ensures.going_down inst words.limit chosen turned new
    (worked-none inst words c.turn.new.seat m c.turn.new.local c.turn.result c.in_default.not-Some c.turn.ensures.worked) c.back_up-in-Down.ensures.ready.graph.rows_are c.back_up-in-Down.ensures.narrows)

pub returns-in-Close-clause-worked : goal.returns-in-Close-clause-worked
returns-in-Close-clause-worked g t c =
    let inst = c.args.shared.now.inst in
    let p = problem_of inst in
    let words = g.N.Naming.words in
    let l = c.args.local.now in
    let r = c.requires.ready in
    let old = l.graph.rows.items in
    let new = c.back_up-in-Close.new.local.graph.rows.items in
    let same = (ap (λ (v : Vec Row Global). v.items) c.next_step.ensures.rows) in
    let closed = c.in-Close.ensures.step in
    let narrows = subst (λ xs. Narrows xs new) same c.back_up-in-Close.ensures.narrows in
    let few = most-rows c.args.seat.now.view words.limit old l.places.items r.of.sized r.standing r.graph.rows_are.distinct in
    c.turns_move.ensures.closing inst words.limit old new c.args.node few c.requires.node c.requires.apart c.back_up-in-Close.ensures.ready.graph.rows_are narrows
    (c.back_up-in-Close.ensures.closes (subst (λ xs. ClosesBelow p xs (members (group_at xs c.args.node))) (sym {A = List Row} same) closed))

pub turn-requires-clause-ready : goal.turn-requires-clause-ready
turn-requires-clause-ready g t c = λ lifetimes met.
    let inst = c.args.shared.now.inst in
    let words = g.N.Naming.words in
    let l = c.args.local.now in
    let m : Local = record { number = l.number; graph = c.next_step.new.graph; places = l.places } in
    graph-same inst words c.args.seat.now l c.requires.ready m c.next_step.ensures.known c.next_step.ensures.keeps (ap (λ (v : Vec Row Global). v.items) c.next_step.ensures.rows) refl refl

pub back_up-requires-in-Close-clause-ready : goal.back_up-requires-in-Close-clause-ready
back_up-requires-in-Close-clause-ready g t c =
    let inst = c.args.shared.now.inst in
    let words = g.N.Naming.words in
    let l = c.args.local.now in
    let m : Local = record { number = l.number; graph = c.next_step.new.graph; places = l.places } in
    let r = graph-same inst words c.args.seat.now l c.requires.ready m c.next_step.ensures.known c.next_step.ensures.keeps (ap (λ (v : Vec Row Global). v.items) c.next_step.ensures.rows) refl refl in
    subst (λ (w : Wording). Ready inst w c.args.seat.now m) (sym c.args.shared.now.named) r

pub returns-in-At-clause-covers : goal.returns-in-At-clause-covers
returns-in-At-clause-covers g t c =
    let first = c.args.seat.now.view in
    let entered = c.enter_at-entered.new.seat.view in
    let taken = c.take_in.new.seat.view in
    covers-on first taken c.back_up.new.seat.view c.back_up.ensures.covers
    (covers-on first entered taken c.take_in.ensures.covers c.enter_at-entered.ensures.covers)

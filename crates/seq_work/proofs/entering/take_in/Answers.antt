use Rattle.std.proofs.Common.{◌++◌, ◌∷◌, [], refl, sym, subst, arith}
use Rattle.seq_theory.specs.Greedy.{greedy_cost}
use Rattle.seq_theory.specs.Rows.{no_value}
use Rattle.seq_theory.proofs.RowLaws.{wanted-within}
use Rattle.seq_inst.specs.declared.outcome.Row.{Row}
use Rattle.seq_inst.specs.Members.{members}
use Rattle.seq_inst.specs.Instances.{problem_of}
use Rattle.seq_graph.specs.Known.{Narrows}
use Rattle.seq_work.proofs.BackingLaws.{seat-stepped}
use Rattle.seq_work.proofs.TurnLaws.{narrows-last, narrows-on}
use Rattle.seq_work.proofs.entering.take_in.Goals as goal

pub take_over-requires-clause-ready : goal.take_over-requires-clause-ready
take_over-requires-clause-ready c =
    let e = c.seen_closed.ensures in
    seat-stepped c.args.inst.now c.args.words.now c.args.seat.now c.args.local.now c.requires.ready c.seen_closed.new.seat e.of e.covers e.alone

pub list-requires-clause-ready : goal.list-requires-clause-ready
list-requires-clause-ready c =
    let e = c.seen_closed.ensures in
    seat-stepped c.args.inst.now c.args.words.now c.args.seat.now c.args.local.now c.requires.ready c.seen_closed.new.seat e.of e.covers e.alone

pub returns-in-Some-clause-narrows : goal.returns-in-Some-clause-narrows
returns-in-Some-clause-narrows c =
    let old = c.args.local.now.graph.rows.items in
    let b = c.in-Some.bounds in
    let first : Row = record { group = c.args.group.now; low = 0; up = no_value } in
    let row : Row = record { group = c.args.group.now; low = b.low; up = b.up } in
    let small = c.in-Some.ensures.seen.small in
    subst (Narrows (old ++ first ∷ [])) (sym c.take_over.ensures.rows) (narrows-last old first row refl (omega arith) (omega arith))

pub returns-in-None-clause-narrows : goal.returns-in-None-clause-narrows
returns-in-None-clause-narrows c =
    let old = c.args.local.now.graph.rows.items in
    let p = problem_of c.args.inst.now in
    let g = members c.args.group.now in
    let first : Row = record { group = c.args.group.now; low = 0; up = no_value } in
    let row : Row = record { group = c.args.group.now; low = 0; up = greedy_cost p g } in
    let small = c.args.inst.now.stands.greedy_fits c.args.group.now (wanted-within p g c.requires.real.wanted) in
    narrows-on (old ++ first ∷ []) c.list.new.local.graph.rows.items c.back_up.new.local.graph.rows.items
    (subst (Narrows (old ++ first ∷ [])) (sym c.list.ensures.rows) (narrows-last old first row refl (omega arith) (omega arith))) c.back_up.ensures.narrows

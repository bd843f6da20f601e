use Rattle.std.proofs.Common.{List, ◌<◌, ◌∙◌, arith, sym, ap, subst, length}
use Rattle.seq_theory.specs.Rows.{no_value}
use Rattle.seq_inst.specs.declared.outcome.Row.{Row}
use Rattle.seq_inst.specs.Members.{members}
use Rattle.seq_inst.specs.Instances.{problem_of}
use Rattle.seq_graph.specs.Known.{group_at, Narrows}
use Rattle.seq_graph.specs.Steps.{IsStep, ClosesBelow}
use Rattle.seq_graph.specs.Walks.{HasMoved}
use Rattle.seq_solo.proofs.RowLaws.{entered-long, turned-none}
use Rattle.seq_solo.proofs.turn.+turn.Goals as goal

pub back_up-requires-clause-place : goal.back_up-requires-clause-place
back_up-requires-clause-place t c =
    let long = entered-long c.next_step.new.graph.rows.items c.enter_one.new.graph.rows.items _ c.in_ok-enter_one-in-Enter.ensures.narrows in
    let same = ap (λ v. length v.items) c.next_step.ensures.rows in
    let place = c.requires.place in
    omega arith

pub returns-in_ok-enter_one-in-Enter-clause-turned : goal.returns-in_ok-enter_one-in-Enter-clause-turned
returns-in_ok-enter_one-in-Enter-clause-turned t c =
    let chosen = c.next_step.new.graph.rows in
    let entered = c.enter_one.new.graph.rows.items in
    let new = c.back_up.new.graph.rows.items in
    let row : Row = record { group = c.in-Enter.group; low = 0; up = no_value } in
    let room : length chosen.items < c.args.limit = (let e = c.len.ensures ∙ chosen.ok.0 in let full = c.if-len-limit.false in omega arith) in
    subst (λ l. HasMoved (problem_of c.args.inst.now) c.args.limit l new) (ap (λ v. v.items) c.next_step.ensures.rows)
    (c.turns_move.ensures.entering c.args.inst.now c.args.limit chosen.items row entered new room c.in_ok-enter_one-in-Enter.ensures.known.rows_are c.in_ok-enter_one-in-Enter.ensures.narrows c.back_up.ensures.known.rows_are c.back_up.ensures.narrows)

pub returns-in_default-clause-turned : goal.returns-in_default-clause-turned
returns-in_default-clause-turned t c =
    let p = problem_of c.args.inst.now in
    let chosen = c.next_step.new.graph.rows.items in
    let turned = c.turn.new.graph.rows.items in
    let new = c.back_up-in-Down.new.graph.rows.items in
    subst (λ l. HasMoved p c.args.limit l new) (ap (λ v. v.items) c.next_step.ensures.rows)
    (c.turns_move.ensures.going_down c.args.inst.now c.args.limit chosen turned new (turned-none p c.args.limit chosen turned c.in_ok-group-in-Down.field-0 c.in_default.not-Some c.in_ok-group-in-Down.ensures.turned) c.back_up-in-Down.ensures.known.rows_are c.back_up-in-Down.ensures.narrows)

pub returns-in-Close-clause-turned : goal.returns-in-Close-clause-turned
returns-in-Close-clause-turned t c =
    let p = problem_of c.args.inst.now in
    let old = c.args.graph.now.rows.items in
    let new = c.back_up-in-Close.new.graph.rows.items in
    let same = (ap (λ v. v.items) c.next_step.ensures.rows) in
    let closed = subst (IsStep p old (members (group_at old c.args.place))) c.in-Close.is c.next_step.ensures.step in
    let narrows = subst (λ l. Narrows l new) same c.back_up-in-Close.ensures.narrows in
    c.turns_move.ensures.closing c.args.inst.now c.args.limit old new c.args.place c.requires.few c.requires.place c.requires.apart c.back_up-in-Close.ensures.known.rows_are narrows
    (c.back_up-in-Close.ensures.closes (subst (λ l. ClosesBelow p l (members (group_at l c.args.place))) (sym {A = List Row} same) closed))

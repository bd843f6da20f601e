use Rattle.std.proofs.Common.{◌≡◌, ◌∙◌, ◌∷◌, ◌++◌, [], min, length, length-append, refl, sym, ap, subst, arith}
use Rattle.seq_theory.specs.Greedy.{greedy_cost}
use Rattle.seq_theory.proofs.RowLaws.{wanted-within}
use Rattle.seq_huff.specs.Bounds.{greatest_cost}
use Rattle.seq_inst.specs.Instances.{problem_of}
use Rattle.seq_inst.specs.Members.{members}
use Rattle.seq_inst.specs.declared.outcome.Row.{Row}
use Rattle.seq_graph.specs.Known.{AreSound, group_at, capped_at}
use Rattle.seq_graph.proofs.EventLaws.{greedy-right, capped-last, group-last, entered-sound}
use Rattle.seq_graph.proofs.events.add.Goals as goal

pub learn-requires-clause-right : goal.learn-requires-clause-right
learn-requires-clause-right c =
    let p = problem_of c.args.inst.now in
    let g = c.args.group.now in
    let within = wanted-within p (members g) c.requires.real.wanted in
    greedy-right c.args.inst.now (members g) greatest_cost within (c.args.inst.now.stands.greedy_fits g within)

pub list-requires-clause-place : goal.list-requires-clause-place
list-requires-clause-place c =
    let s = c.args.graph.now in
    let row : Row = record { group = c.args.group.now; low = 0; up = greatest_cost } in
    let place = c.len-place.ensures ∙ s.rows.ok.0 in
    let more = ap length c.learn.ensures.rows ∙ length-append s.rows.items (row ∷ []) in
    omega arith

pub returns-clause-room : goal.returns-clause-room
returns-clause-room c = λ more r. c.list.ensures.keeps more (c.learn.ensures.room more r)

pub returns-clause-rows : goal.returns-clause-rows
returns-clause-rows c =
    let p = problem_of c.args.inst.now in
    let old = c.args.graph.now.rows.items in
    let g = c.args.group.now in
    let row : Row = record { group = g; low = 0; up = greatest_cost } in
    let place = c.len-place.ensures ∙ c.args.graph.now.rows.ok.0 in
    let fits = c.args.inst.now.stands.greedy_fits g (wanted-within p (members g) c.requires.real.wanted) in
    let least : min greatest_cost (greedy_cost p (members g)) ≡ greedy_cost p (members g) = omega arith in
    c.list.ensures.rows ∙ ap (λ l. capped_at l c.len-place.result (greedy_cost p (members (group_at l c.len-place.result)))) c.learn.ensures.rows
    ∙ ap (λ n. capped_at (old ++ row ∷ []) n (greedy_cost p (members (group_at (old ++ row ∷ []) n)))) place
    ∙ ap (λ x. capped_at (old ++ row ∷ []) (length old) (greedy_cost p (members x))) (group-last old row) ∙ capped-last old row (greedy_cost p (members g)) ∙ ap (λ n. old ++ record { group = g; low = 0; up = n } ∷ []) least

pub returns-clause-sound : goal.returns-clause-sound
returns-clause-sound c = λ sound.
    subst (AreSound (problem_of c.args.inst.now)) (sym (returns-clause-rows c)) (entered-sound c.args.inst.now c.args.graph.now.rows.items c.args.group.now _ c.requires.real c.requires.new refl sound)

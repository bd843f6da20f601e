use Rattle.std.proofs.Common.{◌∙◌, ◌∷◌, ◌++◌, [], length, refl, sym, ap, subst, arith, length-append}
use Rattle.seq_theory.specs.Greedy.{greedy_cost}
use Rattle.seq_theory.specs.Rows.{no_value}
use Rattle.seq_theory.proofs.RowLaws.{wanted-within}
use Rattle.seq_inst.specs.declared.outcome.Row.{Row}
use Rattle.seq_inst.specs.Members.{members}
use Rattle.seq_inst.specs.Instances.{problem_of}
use Rattle.seq_graph.specs.Known.{AreSound, Narrows}
use Rattle.seq_graph.proofs.EventLaws.{length-Narrows, Narrows-trans, Narrows-last}
use Rattle.seq_graph.proofs.events.enter.Goals as goal

pub give_back-requires-clause-place : goal.give_back-requires-clause-place
give_back-requires-clause-place c =
    let old = c.args.graph.now.rows in
    let row : Row = record { group = c.args.group.now; low = 0; up = greedy_cost (problem_of c.args.inst.now) (members c.args.group.now) } in
    let place = c.len-place.ensures ∙ old.ok.0 in
    let more = ap length (c.add.ensures.rows) ∙ length-append old.items (row ∷ []) in
    let long = length-Narrows c.add.new.graph.rows.items c.back_up.new.graph.rows.items c.back_up.ensures.narrows in
    omega arith

pub returns-clause-narrows : goal.returns-clause-narrows
returns-clause-narrows c =
    let p = problem_of c.args.inst.now in
    let old = c.args.graph.now.rows.items in
    let new = c.back_up.new.graph.rows.items in
    let first : Row = record { group = c.args.group.now; low = 0; up = no_value } in
    let row : Row = record { group = c.args.group.now; low = 0; up = greedy_cost p (members c.args.group.now) } in
    let small = c.args.inst.now.stands.greedy_fits c.args.group.now (wanted-within p (members c.args.group.now) c.requires.real.wanted) in
    subst (Narrows (old ++ first ∷ [])) (sym (ap (λ v. v.items) c.give_back.ensures.rows))
    (Narrows-trans (old ++ first ∷ []) (old ++ row ∷ []) new (Narrows-last old first row refl (omega arith) (omega arith)) (subst (λ l. Narrows l new) (c.add.ensures.rows) c.back_up.ensures.narrows))

pub returns-clause-sound : goal.returns-clause-sound
returns-clause-sound c = λ sound. subst (AreSound (problem_of c.args.inst.now)) (sym (ap (λ v. v.items) c.give_back.ensures.rows)) (c.back_up.ensures.sound (c.add.ensures.sound sound))

pub returns-clause-room : goal.returns-clause-room
returns-clause-room c = λ more r. c.give_back.ensures.keeps more (c.back_up.ensures.keeps more (c.add.ensures.room more r))

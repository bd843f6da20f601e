use Rattle.std.proofs.Common.{◌∙◌, sym, ap, subst, arith}
use Rattle.std.proofs.lemmas.List.{get_or_read}
use Rattle.seq_theory.specs.Problem.{IsWithin}
use Rattle.seq_theory.specs.Greedy.{greedy_cost}
use Rattle.seq_inst.specs.declared.outcome.Row.{Row}
use Rattle.seq_inst.specs.Members.{members}
use Rattle.seq_inst.specs.Instances.{problem_of}
use Rattle.seq_graph.specs.Known.{AreSound, AreBounds, Allow, no_row, group_at}
use Rattle.seq_graph.proofs.KnownLaws.{row-within}
use Rattle.seq_graph.proofs.CountLaws.{kept-read}
use Rattle.seq_graph.proofs.EventLaws.{Narrows-refl, greedy-right, cap-allowed, already-capped}
use Rattle.seq_graph.proofs.learning.list.Goals as goal

pub returns-then-index-clause-rows : goal.returns-then-index-clause-rows
returns-then-index-clause-rows c =
    let s = c.args.graph.now in
    let p = problem_of c.args.inst.now in
    let of = kept-read p s.numbers s.rows.items s.nodes.items s.counts.items c.requires.known c.args.place c.index.result.now c.requires.place c.index.ensures in
    already-capped s.rows.items c.args.place _ (of.capped c.if-index.true)

pub returns-then-index-clause-narrows : goal.returns-then-index-clause-narrows
returns-then-index-clause-narrows c = Narrows-refl c.args.graph.now.rows.items

pub estimates-estimates-requires-clause-within : goal.estimates-estimates-requires-clause-within
estimates-estimates-requires-clause-within c =
    let s = c.args.graph.now in
    let p = problem_of c.args.inst.now in
    let read = get_or_read s.rows.items c.args.place c.index-2.result.now c.requires.place c.index-2.ensures no_row in
    subst (λ (r : Row). IsWithin p (members r.group)) (sym read) (row-within p s.rows.items c.requires.known.rows_are c.args.place c.requires.place)

pub greedys_cost-cost-requires-clause-within : goal.greedys_cost-cost-requires-clause-within
greedys_cost-cost-requires-clause-within c =
    let s = c.args.graph.now in
    let p = problem_of c.args.inst.now in
    let read = get_or_read s.rows.items c.args.place c.index-2.result.now c.requires.place c.index-2.ensures no_row in
    subst (λ (r : Row). IsWithin p (members r.group)) (sym read) (row-within p s.rows.items c.requires.known.rows_are c.args.place c.requires.place)

pub note-requires-clause-right : goal.note-requires-clause-right
note-requires-clause-right c =
    let s = c.args.graph.now in
    let p = problem_of c.args.inst.now in
    let read = ap (λ (r : Row). r.group) (get_or_read s.rows.items c.args.place c.index-2.result.now c.requires.place c.index-2.ensures no_row) in
    let same = ap (λ v. v.items) c.greedys_cost-cost.ensures.rows in
    let value = c.greedys_cost-cost.ensures.value in
    let within = row-within p s.rows.items c.requires.known.rows_are c.args.place c.requires.place in
    let greedy = ap (λ g. greedy_cost p (members g)) read in
    subst (λ l. AreBounds p (members (group_at l c.args.place)) 0 c.greedys_cost-cost.result) (sym same) (greedy-right c.args.inst.now (members (group_at s.rows.items c.args.place)) c.greedys_cost-cost.result within (omega arith))

pub returns-clause-keeps : goal.returns-clause-keeps
returns-clause-keeps c = λ more r. c.list_tests.ensures.keeps more (c.note.ensures.keeps more (c.greedys_cost-cost.ensures.keeps more r))

pub returns-clause-sound : goal.returns-clause-sound
returns-clause-sound c = λ sound.
    let s = c.args.graph.now in
    let p = problem_of c.args.inst.now in
    let cost = c.greedys_cost-cost.result in
    let read = ap (λ (r : Row). r.group) (get_or_read s.rows.items c.args.place c.index-2.result.now c.requires.place c.index-2.ensures no_row) in
    let same = ap (λ v. v.items) c.greedys_cost-cost.ensures.rows in
    let is = c.greedys_cost-cost.ensures.value ∙ ap (λ g. greedy_cost p (members g)) read in
    subst (AreSound p) (sym (ap (λ v. v.items) c.list_tests.ensures.rows))
    (c.note.ensures.sound (subst (λ l. Allow p l (members (group_at l c.args.place)) 0 cost) (sym same) (cap-allowed p s.rows.items (members (group_at s.rows.items c.args.place)) cost is)) (subst (AreSound p) (sym same) sound))

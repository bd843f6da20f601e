use Rattle.std.proofs.Common.{◌∙◌, sym, ap, subst}
use Rattle.std.proofs.lemmas.List.{get_or_read}
use Rattle.seq_theory.specs.Problem.{IsWithin}
use Rattle.seq_theory.specs.Greedy.{greedy_cost}
use Rattle.seq_inst.specs.declared.outcome.Row.{Row}
use Rattle.seq_inst.specs.Members.{members}
use Rattle.seq_inst.specs.Instances.{problem_of}
use Rattle.seq_graph.specs.Known.{no_row}
use Rattle.seq_graph.specs.Settling.{IsGreedyCap}
use Rattle.seq_graph.proofs.KnownLaws.{row-within}
use Rattle.seq_graph.proofs.CountLaws.{kept-read}
use Rattle.seq_graph.proofs.SettleLaws.{needs-no-cap, capped-by-greedy}
use Rattle.seq_graph.proofs.settling.greedy_cap.Goals as goal

pub returns-then-index-clause-cap : goal.returns-then-index-clause-cap
returns-then-index-clause-cap c =
    let s = c.args.graph.now in
    let p = problem_of c.args.inst.now in
    let of = kept-read p s.numbers s.rows.items s.nodes.items s.counts.items c.requires.known c.args.place c.index.result.now c.requires.place c.index.ensures in
    needs-no-cap c.args.inst.now s.rows.items c.args.place (row-within p s.rows.items c.requires.known.rows_are c.args.place c.requires.place) (of.capped c.if-index.true)

pub greedys_cost-requires-clause-within : goal.greedys_cost-requires-clause-within
greedys_cost-requires-clause-within c =
    let s = c.args.graph.now in
    let p = problem_of c.args.inst.now in
    let read = get_or_read s.rows.items c.args.place c.index-2.result.now c.requires.place c.index-2.ensures no_row in
    subst (λ (r : Row). IsWithin p (members r.group)) (sym read) (row-within p s.rows.items c.requires.known.rows_are c.args.place c.requires.place)

pub returns-clause-cap : goal.returns-clause-cap
returns-clause-cap c =
    let s = c.args.graph.now in
    let p = problem_of c.args.inst.now in
    let read = ap (λ (r : Row). r.group) (get_or_read s.rows.items c.args.place c.index-2.result.now c.requires.place c.index-2.ensures no_row) in
    subst (λ l. IsGreedyCap p l c.args.place c.greedys_cost.result) (sym (ap (λ v. v.items) c.greedys_cost.ensures.rows)) (capped-by-greedy p s.rows.items c.args.place c.greedys_cost.result (c.greedys_cost.ensures.value ∙ ap (λ g. greedy_cost p (members g)) read))

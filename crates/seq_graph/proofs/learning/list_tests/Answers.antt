use Rattle.std.proofs.Common.{min, true, set, refl, sym, subst}
use Rattle.std.proofs.lemmas.List.{get_or_read}
use Rattle.seq_theory.specs.Problem.{IsWithin}
use Rattle.seq_theory.specs.Bound.{bound, step_sum}
use Rattle.seq_inst.specs.declared.outcome.Row.{Row}
use Rattle.seq_inst.specs.Members.{members}
use Rattle.seq_inst.specs.Instances.{problem_of}
use Rattle.seq_graph.specs.declared.node.Node.{Node}
use Rattle.seq_graph.specs.GreedyChoice.{AreEstimatesFor}
use Rattle.seq_graph.specs.KeptOf.{AreTestsOf}
use Rattle.seq_graph.specs.Known.{no_row}
use Rattle.seq_graph.proofs.KnownLaws.{row-within}
use Rattle.seq_graph.proofs.CountChanges.{flagged-known, listed-known}
use Rattle.seq_graph.proofs.learning.list_tests.Goals as goal

pub returns-in_default-clause-known : goal.returns-in_default-clause-known
returns-in_default-clause-known c =
    let s = c.args.graph.now in
    let k = c.index_mut.result.now in
    flagged-known c.args.inst.now s.numbers s.rows.items s.nodes.items s.counts.items c.requires.known c.args.place c.requires.place k c.index_mut.ensures.value
    (record { number = k.number; weight = k.weight; bound = k.bound; capped = true; most = k.most; splits = k.splits; waiting = k.waiting }) c.requires.capped refl refl refl refl refl refl

pub list-requires-clause-within : goal.list-requires-clause-within
list-requires-clause-within c =
    let s = c.args.graph.now in
    let p = problem_of c.args.inst.now in
    let read = get_or_read s.rows.items c.args.place c.index.result.now c.requires.place c.index.ensures no_row in
    subst (λ (r : Row). IsWithin p (members r.group)) (sym read) (row-within p s.rows.items c.requires.known.rows_are c.args.place c.requires.place)

pub list-requires-clause-estimates : goal.list-requires-clause-estimates
list-requires-clause-estimates c =
    let s = c.args.graph.now in
    let read = get_or_read s.rows.items c.args.place c.index.result.now c.requires.place c.index.ensures no_row in
    subst (λ (r : Row). AreEstimatesFor c.args.inst.now r.group c.args.estimates.now) (sym read) c.requires.estimates

pub returns-clause-known : goal.returns-clause-known
returns-clause-known c =
    let s = c.args.graph.now in
    let p = problem_of c.args.inst.now in
    let k = c.index_mut.result.now in
    let e = c.list.ensures in
    let fresh = c.list.new.self in
    let flag : Node = record { number = k.number; weight = k.weight; bound = k.bound; capped = true; most = k.most; splits = k.splits; waiting = k.waiting } in
    let flagged = flagged-known c.args.inst.now s.numbers s.rows.items s.nodes.items s.counts.items c.requires.known c.args.place c.requires.place k c.index_mut.ensures.value flag c.requires.capped refl refl refl refl refl refl in
    let read = get_or_read s.rows.items c.args.place c.index.result.now c.requires.place c.index.ensures no_row in
    listed-known c.args.inst.now s.numbers s.rows.items (set s.nodes.items c.args.place flag) s.counts.items flagged c.args.place c.requires.place c.index_mut-2.result.now c.index_mut-2.ensures.value fresh e.number e.weight e.bound e.capped
    (subst (λ (r : Row). AreTestsOf p s.numbers (members r.group) (step_sum p (bound p) (members r.group)) (min r.up fresh.most) fresh.splits.items fresh.waiting.items) read (e.tests s.numbers))

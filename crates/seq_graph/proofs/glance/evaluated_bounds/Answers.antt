use Rattle.std.proofs.Common.{◌∙◌, ◌≤◌, arith, sym, subst, get_or, take, take_all}
use Rattle.std.specs.Prelude.{All}
use Rattle.std.proofs.lemmas.List.{take_more}
use Rattle.std.proofs.lemmas.List.Elements.{All-push, All-weaker}
use Rattle.seq_theory.specs.Bound.{step_sum}
use Rattle.seq_theory.specs.Rows.{known_low, least_up}
use Rattle.seq_theory.proofs.PartsRecursion.{splitting-there}
use Rattle.seq_inst.specs.Members.{members}
use Rattle.seq_inst.specs.Instances.{problem_of}
use Rattle.seq_core.specs.RowsOf.{rows_of as rows_from}
use Rattle.seq_graph.specs.declared.node.Split.{Split}
use Rattle.seq_graph.specs.Known.{group_at}
use Rattle.seq_graph.proofs.SplitLaws.{splits-read}
use Rattle.seq_graph.proofs.ChoosingLaws.{splits-at, parts-at, up-none, up-lesser}
use Rattle.seq_graph.proofs.glance.evaluated_bounds.Goals as goal

pub loop-split-init : goal.loop-split-init
loop-split-init c = record {
  low = λ k d lt. absurd (let bad : ⊥ = omega arith in bad);
  up = up-none c.args.inst.now c.args.graph.now.rows.items c.requires.known.rows_are c.args.place c.requires.place;
}

pub low_sum-requires-clause-parts : goal.low_sum-requires-clause-parts
low_sum-requires-clause-parts c =
    let s = c.args.graph.now in
    parts-at c.args.inst.now s.numbers s.rows.items s.nodes.items s.counts.items c.requires.known c.args.place c.requires.place c.index.result.now c.as_slice-splits.result.now c.loop-split.split-index _ c.index.ensures c.as_slice-splits.ensures.value c.loop-split-test.true

pub low_sum-requires-clause-there : goal.low_sum-requires-clause-there
low_sum-requires-clause-there c =
    let s = c.args.graph.now in
    splitting-there (problem_of c.args.inst.now) (members (group_at s.rows.items c.args.place)) _
    (splits-at c.args.inst.now s.numbers s.rows.items s.nodes.items s.counts.items c.requires.known c.args.place c.requires.place c.index.result.now c.as_slice-splits.result.now c.loop-split.split-index _ c.index.ensures c.as_slice-splits.ensures.value c.loop-split-test.true)

pub up_sum-requires-clause-parts : goal.up_sum-requires-clause-parts
up_sum-requires-clause-parts c =
    let s = c.args.graph.now in
    parts-at c.args.inst.now s.numbers s.rows.items s.nodes.items s.counts.items c.requires.known c.args.place c.requires.place c.index.result.now c.as_slice-splits.result.now c.loop-split.split-index _ c.index.ensures c.as_slice-splits.ensures.value c.loop-split-test.true

pub up_sum-requires-clause-there : goal.up_sum-requires-clause-there
up_sum-requires-clause-there c =
    let s = c.args.graph.now in
    splitting-there (problem_of c.args.inst.now) (members (group_at s.rows.items c.args.place)) _
    (splits-at c.args.inst.now s.numbers s.rows.items s.nodes.items s.counts.items c.requires.known c.args.place c.requires.place c.index.result.now c.as_slice-splits.result.now c.loop-split.split-index _ c.index.ensures c.as_slice-splits.ensures.value c.loop-split-test.true)

pub loop-split-preserved : goal.loop-split-preserved
loop-split-preserved c =
    let s = c.args.graph.now in
    let p = problem_of c.args.inst.now in
    let xs = c.as_slice-splits.result.now in
    let i = c.loop-split.split-index in
    let none : Split = record { test = 0; pass = 0; fail = 0 } in
    let f = step_sum p (known_low p (rows_from s.rows.items)) (members (group_at s.rows.items c.args.place)) in
    let low = c.min-low.ensures in
    let sum = c.low_sum.ensures in
    record {
      low = subst (All (λ (x : Split). c.min-low.result ≤ f x.test)) (sym (take_more xs i none c.loop-split-test.true))
          (All-push (λ (x : Split). c.min-low.result ≤ f x.test) (take i xs) (get_or xs i none)
          (All-weaker (λ (x : Split). c.loop-split.low ≤ f x.test) (λ (x : Split). c.min-low.result ≤ f x.test) (λ x le. omega arith) (take i xs) c.loop-split.invariant.low) (omega arith));
      up = subst (λ n. least_up p (rows_from s.rows.items) (members (group_at s.rows.items c.args.place)) ≤ n) (sym c.lesser_of-up.ensures)
          (up-lesser c.args.inst.now s.rows.items c.requires.known.rows_are c.args.place c.requires.place c.loop-split.up (get_or xs i none).test c.up_sum.result c.loop-split.invariant.up
          (splits-at c.args.inst.now s.numbers s.rows.items s.nodes.items s.counts.items c.requires.known c.args.place c.requires.place c.index.result.now c.as_slice-splits.result.now c.loop-split.split-index _ c.index.ensures c.as_slice-splits.ensures.value c.loop-split-test.true) c.up_sum.ensures);
    }

pub returns-clause-low : goal.returns-clause-low
returns-clause-low c =
    let s = c.args.graph.now in
    let p = problem_of c.args.inst.now in
    let xs = c.as_slice-splits.result.now in
    let f = step_sum p (known_low p (rows_from s.rows.items)) (members (group_at s.rows.items c.args.place)) in
    let long = c.requires.known.kept_are.as_many in
    let place = c.requires.place in
    let read = splits-read s.nodes.items c.args.place c.index.result.now (omega arith) c.index.ensures in
    subst (All (λ (x : Split). c.loop-split.low ≤ f x.test)) (take_all c.loop-split.split-index xs c.loop-split-test.false ∙ c.as_slice-splits.ensures.value ∙ sym read) c.loop-split.invariant.low

use Rattle.std.proofs.Common.{◌≡◌, ◌∙◌, sym, ap, subst, None}
use Rattle.std.specs.Prelude.{true}
use Rattle.seq_theory.specs.Graph.{is_entered}
use Rattle.seq_theory.specs.Problem.{all_classes, is_end}
use Rattle.seq_theory.specs.Rows.{IsSound}
use Rattle.seq_inst.specs.Instances.{problem_of}
use Rattle.seq_core.specs.RowsOf.{rows_of as rows_from}
use Rattle.seq_core.specs.Settled.{groups_in}
use Rattle.seq_solo.specs.Found.{BeginsWithAll}
use Rattle.seq_solo.proofs.RowLaws.{turned-none}
use Rattle.seq_solo.proofs.FoundLaws.{root-real, begun, goes-on, nothing-solved, walking-begins, root-entered, walking-sound, solved, may-stop, closed-read, stopped-same}
use Rattle.seq_solo.proofs.alone.walk.Goals as goal

pub returns-then-is_leaf-clause-ended : goal.returns-then-is_leaf-clause-ended
returns-then-is_leaf-clause-ended c =
    let p = problem_of c.args.inst.now in
    nothing-solved p c.in_ok-graph.graph.rows.items (sym (ap (is_end p) c.root-all.ensures.classes) ∙ sym c.is_leaf.ensures ∙ c.if-is_leaf.true)

pub returns-then-is_leaf-clause-stopped : goal.returns-then-is_leaf-clause-stopped
returns-then-is_leaf-clause-stopped c =
    let p = problem_of c.args.inst.now in
    let rows = c.in_ok-graph.graph.rows.items in
    may-stop p c.args.limit rows None (nothing-solved p rows (sym (ap (is_end p) c.root-all.ensures.classes) ∙ sym c.is_leaf.ensures ∙ c.if-is_leaf.true))

pub enter_one-requires-clause-real : goal.enter_one-requires-clause-real
enter_one-requires-clause-real c = root-real (problem_of c.args.inst.now) c.root-all.result c.root-all.ensures.classes (sym c.is_leaf.ensures ∙ c.if-is_leaf.false)

pub turns-init : goal.turns-init
turns-init c = record {
  known = c.in_ok-enter_one.ensures.known;
  walk = begun (problem_of c.args.inst.now) c.args.limit c.root-all.result c.in_ok-graph.graph.rows.items c.enter_one.new.graph.rows.items c.requires.some c.root-all.ensures.classes c.in_ok-graph.ensures.rows (c.in_ok-enter_one.ensures.sound c.in_ok-graph.ensures.sound) c.in_ok-enter_one.ensures.narrows;
}

pub turns-preserved : goal.turns-preserved
turns-preserved c =
    let p = problem_of c.args.inst.now in
    let old = c.turns.graph.rows.items in
    let new = c.turn.new.graph.rows.items in
    record {
      known = c.in_ok-missed.ensures.known;
      walk = goes-on p c.args.limit old new c.turns.invariant.walk c.in_ok-missed.ensures.sound (turned-none p c.args.limit old new c.in_ok-missed.field-0 c.in_default.not-Some c.in_ok-missed.ensures.turned);
    }

pub returns-clause-sound : goal.returns-clause-sound
returns-clause-sound c = walking-sound (problem_of c.args.inst.now) c.args.limit c.turns.graph.rows.items c.turns.invariant.walk

pub returns-clause-first : goal.returns-clause-first
returns-clause-first c =
    let p = problem_of c.args.inst.now in
    walking-begins p c.args.limit c.turns.graph.rows.items (sym (ap (is_end p) c.root-all.ensures.classes) ∙ sym c.is_leaf.ensures ∙ c.if-is_leaf.false) c.turns.invariant.walk

pub returns-clause-root : goal.returns-clause-root
returns-clause-root c = λ more.
    let p = problem_of c.args.inst.now in
    let rows = c.turns.graph.rows.items in
    root-entered p rows (walking-begins p c.args.limit rows more c.turns.invariant.walk) more

pub returns-clause-ended : goal.returns-clause-ended
returns-clause-ended c =
    let rows = c.turns.graph.rows.items in
    let closed = closed-read rows c.index.result.now c.index-in-turns.result.now c.turns.invariant.walk.some c.index.ensures c.index-in-turns.ensures c.turns-test.false in
    solved c.args.inst.now c.args.limit rows c.turns.invariant.walk closed

pub returns-clause-stopped : goal.returns-clause-stopped
returns-clause-stopped c =
    let p = problem_of c.args.inst.now in
    let rows = c.turns.graph.rows.items in
    let closed = closed-read rows c.index.result.now c.index-in-turns.result.now c.turns.invariant.walk.some c.index.ensures c.index-in-turns.ensures c.turns-test.false in
    may-stop p c.args.limit rows None (solved c.args.inst.now c.args.limit rows c.turns.invariant.walk closed)

pub returns-in-Some-clause-root : goal.returns-in-Some-clause-root
returns-in-Some-clause-root c = λ more.
    let p = problem_of c.args.inst.now in
    let rows = c.turns.graph.rows.items in
    let same = stopped-same p c.args.limit rows c.turn.new.graph.rows.items c.in_ok-missed.field-0 c.in-Some.missed c.in_ok-missed.ensures.turned c.in-Some.is in
    subst (λ l. is_entered (groups_in l) (all_classes p) ≡ true) (sym same) (root-entered p rows (walking-begins p c.args.limit rows more c.turns.invariant.walk) more)

pub returns-in-Some-clause-first : goal.returns-in-Some-clause-first
returns-in-Some-clause-first c =
    let p = problem_of c.args.inst.now in
    let rows = c.turns.graph.rows.items in
    let same = stopped-same p c.args.limit rows c.turn.new.graph.rows.items c.in_ok-missed.field-0 c.in-Some.missed c.in_ok-missed.ensures.turned c.in-Some.is in
    subst (BeginsWithAll p) (sym same) (walking-begins p c.args.limit rows (sym (ap (is_end p) c.root-all.ensures.classes) ∙ sym c.is_leaf.ensures ∙ c.if-is_leaf.false) c.turns.invariant.walk)

pub returns-in-Some-clause-sound : goal.returns-in-Some-clause-sound
returns-in-Some-clause-sound c =
    let p = problem_of c.args.inst.now in
    let rows = c.turns.graph.rows.items in
    let same = stopped-same p c.args.limit rows c.turn.new.graph.rows.items c.in_ok-missed.field-0 c.in-Some.missed c.in_ok-missed.ensures.turned c.in-Some.is in
    subst (λ l. IsSound p c.args.limit (rows_from l)) (sym same) (walking-sound p c.args.limit rows c.turns.invariant.walk)

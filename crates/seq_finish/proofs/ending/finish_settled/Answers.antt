use Rattle.std.proofs.Common.{◌≡◌, ◌∙◌, sym, ap, subst, refl, arith, length}
use Rattle.std.specs.Prelude.{All, IsSome}
use Rattle.seq_theory.specs.Graph.{low, val, strat}
use Rattle.seq_theory.specs.Rows.{AreDistinct}
use Rattle.seq_inst.specs.Members.{members}
use Rattle.seq_inst.specs.Instances.{problem_of}
use Rattle.seq_inst.specs.Trees.{tree_of}
use Rattle.seq_core.specs.Tables.{placed_groups}
use Rattle.seq_core.specs.Settled.{groups_in, settled_rows}
use Rattle.seq_finish.specs.Outcomes.{IsSettled}
use Rattle.seq_finish.proofs.OutcomeLaws.{settled-all, settled-entered, are-entered, root-valued, outcome-right, outcome-shape, outcome-proper}
use Rattle.seq_finish.proofs.ending.finish_settled.Goals as goal

pub index_of-requires-clause-distinct : goal.index_of-requires-clause-distinct
index_of-requires-clause-distinct c =
    let p = problem_of c.args.inst.now in
    let same : c.as_slice.result.now ≡ settled_rows p c.args.rows.items = c.as_slice.ensures.value ∙ c.requires.settled in
    subst AreDistinct (sym (ap groups_in same ∙ settled-entered p c.args.rows.items)) c.requires.sound.distinct

pub index_of-requires-clause-few : goal.index_of-requires-clause-few
index_of-requires-clause-few c =
    let p = problem_of c.args.inst.now in
    let same : c.as_slice.result.now ≡ settled_rows p c.args.rows.items = c.as_slice.ensures.value ∙ c.requires.settled in
    let long = ap length same in
    let few = (are-entered p c.args.limit c.args.rows.items c.requires.sound c.requires.root).few in
    let fits = c.ranges.limit.fits in
    omega arith

pub strategy_of-requires-clause-placed : goal.strategy_of-requires-clause-placed
strategy_of-requires-clause-placed c = c.in_ok-places.ensures ∙ ap (placed_groups 0) (c.as_slice.ensures.value ∙ sym c.as_slice-2.ensures.value)

pub bounds_of-bounds-requires-clause-placed : goal.bounds_of-bounds-requires-clause-placed
bounds_of-bounds-requires-clause-placed c = c.in_ok-places.ensures ∙ ap (placed_groups 0) (c.as_slice.ensures.value ∙ sym c.as_slice-3.ensures.value)

pub strategy_of-requires-clause-settled : goal.strategy_of-requires-clause-settled
strategy_of-requires-clause-settled c =
    let p = problem_of c.args.inst.now in
    let same : c.as_slice-2.result.now ≡ settled_rows p c.args.rows.items = c.as_slice-2.ensures.value ∙ c.requires.settled in
    subst (λ l. All (IsSettled p (groups_in l)) l) (sym same) (settled-all p c.args.limit c.args.rows.items c.requires.sound)

pub strategy_of-requires-clause-within : goal.strategy_of-requires-clause-within
strategy_of-requires-clause-within c = c.root-all.ensures.within

pub strategy_of-requires-clause-valued : goal.strategy_of-requires-clause-valued
strategy_of-requires-clause-valued c =
    let p = problem_of c.args.inst.now in
    let same : c.as_slice-2.result.now ≡ settled_rows p c.args.rows.items = c.as_slice-2.ensures.value ∙ c.requires.settled in
    subst (λ g. IsSome (val p g (members c.root-all.result))) (sym (ap groups_in same ∙ settled-entered p c.args.rows.items))
    (subst (λ g. IsSome (val p (groups_in c.args.rows.items) g)) (sym c.root-all.ensures.classes) (root-valued p (groups_in c.args.rows.items) c.requires.root))

pub bounds_of-bounds-requires-clause-settled : goal.bounds_of-bounds-requires-clause-settled
bounds_of-bounds-requires-clause-settled c =
    let p = problem_of c.args.inst.now in
    let same : c.as_slice-3.result.now ≡ settled_rows p c.args.rows.items = c.as_slice-3.ensures.value ∙ c.requires.settled in
    subst (λ l. All (IsSettled p (groups_in l)) l) (sym same) (settled-all p c.args.limit c.args.rows.items c.requires.sound)

pub bounds_of-bounds-requires-clause-valued : goal.bounds_of-bounds-requires-clause-valued
bounds_of-bounds-requires-clause-valued c =
    let p = problem_of c.args.inst.now in
    let same : c.as_slice-3.result.now ≡ settled_rows p c.args.rows.items = c.as_slice-3.ensures.value ∙ c.requires.settled in
    subst (λ g. IsSome (val p g (members c.root-all.result))) (sym (ap groups_in same ∙ settled-entered p c.args.rows.items))
    (subst (λ g. IsSome (val p (groups_in c.args.rows.items) g)) (sym c.root-all.ensures.classes) (root-valued p (groups_in c.args.rows.items) c.requires.root))

pub returns-clause-proper : goal.returns-clause-proper
returns-clause-proper c =
    let p = problem_of c.args.inst.now in
    let rows = c.args.rows.items in
    let items : rows ≡ settled_rows p rows = c.requires.settled in
    let same3 : groups_in c.as_slice-3.result.now ≡ groups_in rows = ap groups_in (c.as_slice-3.ensures.value ∙ items) ∙ settled-entered p rows in
    outcome-proper c.args.inst.now (groups_in rows) c.bounds_of-bounds.result.low c.bounds_of-bounds.result.cost
    (c.bounds_of-bounds.ensures.low ∙ ap (λ g. low p g (members c.root-all.result)) same3 ∙ ap (low p (groups_in rows)) c.root-all.ensures.classes)
    (sym (ap (λ g. val p g (members c.root-all.result)) same3 ∙ ap (val p (groups_in rows)) c.root-all.ensures.classes) ∙ c.bounds_of-bounds.ensures.cost)

pub returns-clause-there : goal.returns-clause-there
returns-clause-there c =
    let p = problem_of c.args.inst.now in
    let rows = c.args.rows.items in
    let items : rows ≡ settled_rows p rows = c.requires.settled in
    let same2 : groups_in c.as_slice-2.result.now ≡ groups_in rows = ap groups_in (c.as_slice-2.ensures.value ∙ items) ∙ settled-entered p rows in
    (outcome-shape c.args.inst.now (groups_in rows) (tree_of c.in_ok-strategy.strategy) c.requires.root (c.in_ok-strategy.ensures.strategy ∙ ap (λ g. strat p g (members c.root-all.result)) same2 ∙ ap (strat p (groups_in rows)) c.root-all.ensures.classes)).there

pub returns-clause-right : goal.returns-clause-right
returns-clause-right c =
    let p = problem_of c.args.inst.now in
    let rows = c.args.rows.items in
    let items : rows ≡ settled_rows p rows = c.requires.settled in
    let same2 : groups_in c.as_slice-2.result.now ≡ groups_in rows = ap groups_in (c.as_slice-2.ensures.value ∙ items) ∙ settled-entered p rows in
    let same3 : groups_in c.as_slice-3.result.now ≡ groups_in rows = ap groups_in (c.as_slice-3.ensures.value ∙ items) ∙ settled-entered p rows in
    outcome-right p c.args.limit rows c.args.missed _ c.requires.sound c.requires.root c.requires.stopped items
    (c.in_ok-strategy.ensures.strategy ∙ ap (λ g. strat p g (members c.root-all.result)) same2 ∙ ap (strat p (groups_in rows)) c.root-all.ensures.classes)
    (sym (ap (λ g. val p g (members c.root-all.result)) same3 ∙ ap (val p (groups_in rows)) c.root-all.ensures.classes) ∙ c.bounds_of-bounds.ensures.cost)
    (c.bounds_of-bounds.ensures.low ∙ ap (λ g. low p g (members c.root-all.result)) same3 ∙ ap (low p (groups_in rows)) c.root-all.ensures.classes)
    refl c.verdict_of-verdict.ensures.0 c.verdict_of-verdict.ensures.1 c.still_missed.ensures.optimal c.still_missed.ensures.bounded

pub returns-clause-splitting : goal.returns-clause-splitting
returns-clause-splitting c =
    let p = problem_of c.args.inst.now in
    let rows = c.args.rows.items in
    let items : rows ≡ settled_rows p rows = c.requires.settled in
    let same2 : groups_in c.as_slice-2.result.now ≡ groups_in rows = ap groups_in (c.as_slice-2.ensures.value ∙ items) ∙ settled-entered p rows in
    (outcome-shape c.args.inst.now (groups_in rows) (tree_of c.in_ok-strategy.strategy) c.requires.root (c.in_ok-strategy.ensures.strategy ∙ ap (λ g. strat p g (members c.root-all.result)) same2 ∙ ap (strat p (groups_in rows)) c.root-all.ensures.classes)).splitting

pub returns-clause-leaves : goal.returns-clause-leaves
returns-clause-leaves c =
    let p = problem_of c.args.inst.now in
    let rows = c.args.rows.items in
    let items : rows ≡ settled_rows p rows = c.requires.settled in
    let same2 : groups_in c.as_slice-2.result.now ≡ groups_in rows = ap groups_in (c.as_slice-2.ensures.value ∙ items) ∙ settled-entered p rows in
    (outcome-shape c.args.inst.now (groups_in rows) (tree_of c.in_ok-strategy.strategy) c.requires.root (c.in_ok-strategy.ensures.strategy ∙ ap (λ g. strat p g (members c.root-all.result)) same2 ∙ ap (strat p (groups_in rows)) c.root-all.ensures.classes)).leaves

pub returns-clause-short : goal.returns-clause-short
returns-clause-short c =
    let p = problem_of c.args.inst.now in
    let rows = c.args.rows.items in
    let items : rows ≡ settled_rows p rows = c.requires.settled in
    let same2 : groups_in c.as_slice-2.result.now ≡ groups_in rows = ap groups_in (c.as_slice-2.ensures.value ∙ items) ∙ settled-entered p rows in
    (outcome-shape c.args.inst.now (groups_in rows) (tree_of c.in_ok-strategy.strategy) c.requires.root (c.in_ok-strategy.ensures.strategy ∙ ap (λ g. strat p g (members c.root-all.result)) same2 ∙ ap (strat p (groups_in rows)) c.root-all.ensures.classes)).short

pub returns-clause-stands : goal.returns-clause-stands
returns-clause-stands c = λ least l. c.outcomes_hold.ensures (problem_of c.args.inst.now) c.args.limit least _ c.args.inst.now.stands.weighed c.args.inst.now.valid.told (returns-clause-right c) l

use Rattle.std.proofs.Common.{◌≡◌, ◌∙◌, sym, ap, subst}
use Rattle.std.specs.Prelude.{true, IfOk}
use Rattle.seq_theory.specs.Problem.{all_classes}
use Rattle.seq_theory.specs.Graph.{is_entered}
use Rattle.seq_theory.specs.Rows.{IsSound}
use Rattle.seq_inst.specs.Instances.{problem_of}
use Rattle.seq_core.specs.RowsOf.{rows_of as rows_from}
use Rattle.seq_core.specs.Settled.{groups_in, settled_rows}
use Rattle.seq_core.specs.Entered.{MayStop}
use Rattle.seq_graph.specs.Behind.{AreBehind}
use Rattle.seq_graph.specs.Known.{AreSound}
use Rattle.seq_finish.proofs.OutcomeLaws.{settled-entered, settled-again, settled-sound, sound-long}
use Rattle.seq_finish.proofs.JoinLaws.{joined-settled}
use Rattle.seq_finish.proofs.ending.finish_with.Goals as goal

pub join-requires-clause-sound : goal.join-requires-clause-sound
join-requires-clause-sound c =
    let p = problem_of c.args.inst.now in
    subst (AreSound p) (sym c.as_slice.ensures.value) (sound-long p c.args.limit c.args.rows.items c.requires.sound)

pub join-requires-clause-behind : goal.join-requires-clause-behind
join-requires-clause-behind c = subst (λ l. AreBehind l c.args.graph.rows.items) (sym c.as_slice.ensures.value) c.requires.behind

pub settled_by-requires-clause-settled : goal.settled_by-requires-clause-settled
settled_by-requires-clause-settled c =
    let p = problem_of c.args.inst.now in
    c.in_ok-settle.ensures.rows ∙ settled-again p c.join.new.graph.rows.items ∙ ap (settled_rows p) (sym c.in_ok-settle.ensures.rows)

pub settled_by-requires-clause-there : goal.settled_by-requires-clause-there
settled_by-requires-clause-there c = λ g e.
    let p = problem_of c.args.inst.now in
    let joined = c.join.new.graph.rows.items in
    let given : is_entered (groups_in c.as_slice.result.now) g ≡ true = subst (λ l. is_entered (groups_in l) g ≡ true) (c.as_slice-2.ensures.value ∙ sym c.as_slice.ensures.value) e in
    subst (λ gs. is_entered gs g ≡ true) (sym (ap groups_in c.in_ok-settle.ensures.rows ∙ settled-entered p joined)) (c.in_ok-join.ensures.all g given)

pub finish_settled-requires-clause-settled : goal.finish_settled-requires-clause-settled
finish_settled-requires-clause-settled c =
    let p = problem_of c.args.inst.now in
    let items = joined-settled (problem_of c.args.inst.now) c.args.rows.items c.as_slice.result.now c.as_slice-2.result.now c.join.new.graph.rows.items c.settle.new.graph.rows.items c.in_ok-settled.settled.items c.as_slice.ensures.value c.as_slice-2.ensures.value c.in_ok-join.ensures.all c.in_ok-join.ensures.no_others c.in_ok-settle.ensures.rows c.in_ok-settled.ensures in
    items ∙ settled-again p c.args.rows.items ∙ ap (settled_rows p) (sym items)

pub finish_settled-requires-clause-sound : goal.finish_settled-requires-clause-sound
finish_settled-requires-clause-sound c =
    let p = problem_of c.args.inst.now in
    let items = joined-settled (problem_of c.args.inst.now) c.args.rows.items c.as_slice.result.now c.as_slice-2.result.now c.join.new.graph.rows.items c.settle.new.graph.rows.items c.in_ok-settled.settled.items c.as_slice.ensures.value c.as_slice-2.ensures.value c.in_ok-join.ensures.all c.in_ok-join.ensures.no_others c.in_ok-settle.ensures.rows c.in_ok-settled.ensures in
    subst (λ l. IsSound p c.args.limit (rows_from l)) (sym items) (settled-sound p c.args.limit c.args.rows.items c.requires.sound)

pub finish_settled-requires-clause-root : goal.finish_settled-requires-clause-root
finish_settled-requires-clause-root c = λ more.
    let p = problem_of c.args.inst.now in
    let items = joined-settled (problem_of c.args.inst.now) c.args.rows.items c.as_slice.result.now c.as_slice-2.result.now c.join.new.graph.rows.items c.settle.new.graph.rows.items c.in_ok-settled.settled.items c.as_slice.ensures.value c.as_slice-2.ensures.value c.in_ok-join.ensures.all c.in_ok-join.ensures.no_others c.in_ok-settle.ensures.rows c.in_ok-settled.ensures in
    subst (λ g. is_entered g (all_classes p) ≡ true) (sym (ap groups_in items ∙ settled-entered p c.args.rows.items)) (c.requires.root more)

pub finish_settled-requires-clause-stopped : goal.finish_settled-requires-clause-stopped
finish_settled-requires-clause-stopped c =
    let p = problem_of c.args.inst.now in
    let items = joined-settled (problem_of c.args.inst.now) c.args.rows.items c.as_slice.result.now c.as_slice-2.result.now c.join.new.graph.rows.items c.settle.new.graph.rows.items c.in_ok-settled.settled.items c.as_slice.ensures.value c.as_slice-2.ensures.value c.in_ok-join.ensures.all c.in_ok-join.ensures.no_others c.in_ok-settle.ensures.rows c.in_ok-settled.ensures in
    subst (λ g. MayStop p c.args.limit g c.args.missed) (sym (ap groups_in items ∙ settled-entered p c.args.rows.items)) c.requires.stopped

pub returns-clause-rows : goal.returns-clause-rows
returns-clause-rows c =
    let p = problem_of c.args.inst.now in
    let items = joined-settled (problem_of c.args.inst.now) c.args.rows.items c.as_slice.result.now c.as_slice-2.result.now c.join.new.graph.rows.items c.settle.new.graph.rows.items c.in_ok-settled.settled.items c.as_slice.ensures.value c.as_slice-2.ensures.value c.in_ok-join.ensures.all c.in_ok-join.ensures.no_others c.in_ok-settle.ensures.rows c.in_ok-settled.ensures in
    subst (λ l. IfOk c.finish_settled.result (λ o. o.rows.items ≡ l)) items c.finish_settled.ensures.rows

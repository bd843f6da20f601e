use Rattle.std.proofs.Common.{◌≡◌, ◌∙◌, sym, ap, subst}
use Rattle.std.specs.Prelude.{true}
use Rattle.seq_theory.specs.Problem.{all_classes}
use Rattle.seq_theory.specs.Graph.{is_entered}
use Rattle.seq_theory.specs.Rows.{IsSound}
use Rattle.seq_inst.specs.Instances.{problem_of}
use Rattle.seq_core.specs.RowsOf.{rows_of as rows_from}
use Rattle.seq_core.specs.Settled.{groups_in, settled_rows}
use Rattle.seq_core.specs.Entered.{MayStop}
use Rattle.seq_finish.proofs.OutcomeLaws.{settled-entered, settled-again, settled-sound, sound-long}
use Rattle.seq_finish.proofs.ending.finish_graph.Goals as goal

pub settle-requires-clause-sound : goal.settle-requires-clause-sound
settle-requires-clause-sound c = sound-long (problem_of c.args.inst.now) c.args.limit c.args.graph.rows.items c.requires.sound

pub finish_settled-requires-clause-sound : goal.finish_settled-requires-clause-sound
finish_settled-requires-clause-sound c =
    let p = problem_of c.args.inst.now in
    let rows = c.args.graph.rows.items in
    subst (λ l. IsSound p c.args.limit (rows_from l)) (sym c.in_ok-settle.ensures.rows) (settled-sound p c.args.limit rows c.requires.sound)

pub finish_settled-requires-clause-root : goal.finish_settled-requires-clause-root
finish_settled-requires-clause-root c = λ more.
    let p = problem_of c.args.inst.now in
    let rows = c.args.graph.rows.items in
    subst (λ g. is_entered g (all_classes p) ≡ true) (sym (ap groups_in c.in_ok-settle.ensures.rows ∙ settled-entered p rows)) (c.requires.root more)

pub finish_settled-requires-clause-stopped : goal.finish_settled-requires-clause-stopped
finish_settled-requires-clause-stopped c =
    let p = problem_of c.args.inst.now in
    let rows = c.args.graph.rows.items in
    subst (λ g. MayStop p c.args.limit g c.args.missed) (sym (ap groups_in c.in_ok-settle.ensures.rows ∙ settled-entered p rows)) c.requires.stopped

pub finish_settled-requires-clause-settled : goal.finish_settled-requires-clause-settled
finish_settled-requires-clause-settled c =
    let p = problem_of c.args.inst.now in
    let rows = c.args.graph.rows.items in
    c.in_ok-settle.ensures.rows ∙ settled-again p rows ∙ ap (settled_rows p) (sym c.in_ok-settle.ensures.rows)

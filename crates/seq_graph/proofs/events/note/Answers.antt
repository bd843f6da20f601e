use Rattle.std.proofs.Common.{◌∙◌, length, refl, sym, ap, subst, arith}
use Rattle.std.proofs.Math.ListN.{length-set}
use Rattle.seq_graph.proofs.RoomLaws.{keeps-room}
use Rattle.std.proofs.lemmas.Option.{slice_get_within}
use Rattle.seq_inst.specs.Instances.{problem_of}
use Rattle.seq_graph.specs.Known.{AreKnown, AreSound, Narrows, IsClosedAt, capped_at, raised_at}
use Rattle.seq_graph.proofs.CountLaws.{kept-read, counts-long}
use Rattle.seq_graph.proofs.CountChanges.{narrowed-known}
use Rattle.seq_graph.proofs.EventLaws.{heard-rows, heard-sound, refreshed}
use Rattle.seq_graph.proofs.events.note.Goals as goal

pub narrow-requires : goal.narrow-requires
narrow-requires c =
    let s = c.args.graph.now in
    let p = problem_of c.args.inst.now in
    let kept = kept-read p s.numbers s.rows.items s.nodes.items s.counts.items c.requires.known c.args.place c.index.result.now c.requires.place c.index.ensures in
    let within = slice_get_within s.numbers.groups c.index.result.now.number _ kept.number in
    let long = counts-long p s.numbers s.rows.items s.nodes.items s.counts.items c.requires.known in
    omega arith

pub returns-clause-known : goal.returns-clause-known
returns-clause-known c =
    let s = c.args.graph.now in
    let p = problem_of c.args.inst.now in
    let rows = s.rows.items in
    let place = c.args.place in
    let low = c.args.bounds.low in
    let up = c.args.bounds.up in
    let is = c.cap.ensures.rows ∙ ap (λ l. capped_at l place up) c.raise.ensures.rows in
    subst (λ l. AreKnown p s.numbers l s.nodes.items c.narrow.new.counts.items) (sym is)
    (subst (λ l. AreKnown p s.numbers (capped_at (raised_at rows place low) place up) s.nodes.items l) (sym c.narrow.ensures.counts)
    (narrowed-known c.args.inst.now s.numbers rows s.nodes.items s.counts.items c.requires.known place c.requires.place c.index.result.now c.index.ensures low up
    (refreshed c.args.inst.now rows place low up c.requires.known.rows_are c.requires.place c.requires.right)))

pub returns-clause-rows : goal.returns-clause-rows
returns-clause-rows c =
    c.cap.ensures.rows ∙ ap (λ l. capped_at l c.args.place c.args.bounds.up) c.raise.ensures.rows
    ∙ heard-rows c.args.graph.now.rows.items c.args.place c.args.bounds.low c.args.bounds.up c.requires.place

pub returns-clause-narrows : goal.returns-clause-narrows
returns-clause-narrows c =
    let rows = c.args.graph.now.rows.items in
    let is = c.cap.ensures.rows ∙ ap (λ l. capped_at l c.args.place c.args.bounds.up) c.raise.ensures.rows in
    subst (Narrows rows) (sym is) (refreshed c.args.inst.now rows c.args.place c.args.bounds.low c.args.bounds.up c.requires.known.rows_are c.requires.place c.requires.right).narrows

pub returns-clause-closes : goal.returns-clause-closes
returns-clause-closes c = λ le.
    let rows = c.args.graph.now.rows.items in
    let is = c.cap.ensures.rows ∙ ap (λ l. capped_at l c.args.place c.args.bounds.up) c.raise.ensures.rows in
    subst (λ l. IsClosedAt l c.args.place) (sym is) ((refreshed c.args.inst.now rows c.args.place c.args.bounds.low c.args.bounds.up c.requires.known.rows_are c.requires.place c.requires.right).closes le)

pub returns-clause-sound : goal.returns-clause-sound
returns-clause-sound c = λ allow sound.
    let rows = c.args.graph.now.rows.items in
    let is = c.cap.ensures.rows ∙ ap (λ l. capped_at l c.args.place c.args.bounds.up) c.raise.ensures.rows ∙ heard-rows rows c.args.place c.args.bounds.low c.args.bounds.up c.requires.place in
    subst (AreSound (problem_of c.args.inst.now)) (sym is) (heard-sound c.args.inst.now rows c.args.place c.args.bounds.low c.args.bounds.up sound c.requires.place allow)

pub returns-clause-keeps : goal.returns-clause-keeps
returns-clause-keeps c =
    let rows = c.args.graph.now.rows.items in
    let place = c.args.place in
    let long = ap length (c.cap.ensures.rows ∙ ap (λ l. capped_at l place c.args.bounds.up) c.raise.ensures.rows) ∙ length-set _ place _ ∙ length-set rows place _ in
    let raised = c.raise.ensures.capacity in
    let capped = c.cap.ensures.capacity in
    let counts = c.narrow.ensures.capacity in
    keeps-room _ _ long (omega arith) refl (omega arith) (omega arith) (λ le. omega arith)

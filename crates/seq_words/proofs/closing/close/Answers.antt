use Rattle.std.proofs.Common.{ℕ, List, sym, subst}
use Rattle.std.proofs.lemmas.List.Elements.{All-weaker}
use Rattle.seq_theory.specs.Rows.{IsSound}
use Rattle.seq_inst.specs.Instances.{problem_of}
use Rattle.seq_core.specs.RowsOf.{rows_of}
use Rattle.seq_words.specs.Knowledge.{problem_in}
use Rattle.seq_words.proofs.ClosedRows.{ends, covered}
use Rattle.seq_words.proofs.closing.close.Goals as goal
use Rattle.seq_words.proofs.closing.close.Goals.{After-free}
use Rattle.seq_words.specs.Knowledge.{Covers}
use Rattle.seq_words.specs.Seats.{Sitting, Wording}
use Rattle.seq_words.specs.Closing.{IsCore, AreOf}

-- the rows are sound, and what all seats knew is true of them
end_of : (c : After-free) → IsSound (problem_of c.words.inside.table.shared.key.inst.value) c.words.inside.limit (rows_of c.rows_in-rows.result.items) × AreOf c.gather-all.result.view c.rows_in-rows.result.items
end_of c =
    let f = c.close_with-closed.ensures.values.2 in
    let rows = c.rows_in-rows.result.items in
    let key = c.words.inside.table.shared.key in
    let limit = c.words.invariant.1 in
    let o = subst (λ (ws : List ℕ). IsCore ws c.words.inside.limit rows) (sym f.2) c.rows_in-rows.ensures in
    let o' = subst (λ (n : ℕ). IsCore f.0.words n rows) (sym limit) o in
    let e = ends key.inst.value key.limit c.all.inside.seat.id c.all.inside.seat.me.0 rows f.0 f.1.0 f.1.1 o' in
    (subst (λ (n : ℕ). IsSound (problem_of key.inst.value) n (rows_of rows)) limit e.0, subst (λ (z : Sitting). AreOf z.view rows) c.all.view_is e.1)

pub returns-clause-sound : goal.returns-clause-sound
returns-clause-sound c = subst (λ (w : Wording). IsSound (problem_in w.told) w.limit (rows_of c.rows_in-rows.result.items)) c.words.view_is (end_of c).0

pub returns-clause-scribe : goal.returns-clause-scribe
returns-clause-scribe c = covered c.gather-all.result.view c.args.scribe.view c.rows_in-rows.result.items c.gather-all.ensures.scribe (end_of c).1

pub returns-clause-seats : goal.returns-clause-seats
returns-clause-seats c =
    let v = c.gather-all.result.view in
    let rows = c.rows_in-rows.result.items in
    All-weaker (λ (s : Sitting). Covers v s.view) (λ (s : Sitting). AreOf s.view rows) (λ s h. covered v s.view rows h (end_of c).1) c.args.seats.items c.gather-all.ensures.seats

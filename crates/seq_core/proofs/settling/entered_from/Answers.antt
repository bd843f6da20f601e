use Rattle.std.proofs.Common.{◌≡◌, ◌<◌, ◌∙◌, ap, arith, length, take}
use Rattle.std.proofs.Math.Seq.{take-length}
use Rattle.seq_inst.specs.Members.{members}
use Rattle.seq_core.specs.RowsOf.{rows_of, place_of_group}
use Rattle.seq_core.specs.Settled.{row_at}
use Rattle.seq_core.proofs.EnterAll.{fresh, absent-next}
use Rattle.seq_core.proofs.settling.entered_from.Goals as goal

pub add-requires-clause-absent : goal.add-requires-clause-absent
add-requires-clause-absent c =
    let rows = c.args.rows.now in
    let k = c.loop-row.row-index in
    let lt : k < length rows = omega arith in
    ap (λ l. place_of_group (rows_of l) (members (row_at rows k).group)) c.loop-row.invariant.rows ∙ absent-next rows k c.requires.distinct lt

pub returns : goal.returns
returns c =
    let rows = c.args.rows.now in
    let e : c.loop-row.row-index ≡ length rows = omega arith in
    c.loop-row.invariant.rows ∙ ap (λ n. fresh (take n rows)) e ∙ ap fresh (take-length rows)

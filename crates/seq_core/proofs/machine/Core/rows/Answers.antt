use Rattle.std.proofs.Common.{◌∙◌, sym, ap, subst}
use Rattle.seq_core.specs.RowsOf.{rows_of}
use Rattle.seq_core.specs.Tables.{Table}
use Rattle.seq_core.specs.Events.{AreBetween}
use Rattle.seq_core.proofs.machine.Core.rows.Goals as goal

pub returns-clause-between : goal.returns-clause-between
returns-clause-between c = λ p weighed told of.
    subst (λ l. AreBetween p (rows_of l)) (sym (c.as_slice.ensures.value ∙ ap (λ (t : Table). t.rows) c.self.view_is)) (λ r n i l. c.sound_rows_hold.ensures p c.args.self.now.room (rows_of c.args.self.now.rows) r n weighed told of.sound i l)

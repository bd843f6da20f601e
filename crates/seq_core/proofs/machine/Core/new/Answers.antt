use Rattle.std.proofs.Common.{◌≡◌, [], sym, subst}
use Rattle.std.proofs.lemmas.Result.{IfOk-weaker}
use Rattle.seq_theory.specs.Rows.{IsSound}
use Rattle.seq_inst.specs.Instances.{problem_of}
use Rattle.seq_core.specs.RowsOf.{rows_of}
use Rattle.seq_core.specs.Tables.{Table}
use Rattle.seq_core.specs.Events.{IsCoreOf}
use Rattle.seq_core.proofs.machine.Core.new.Goals as goal

pub returns-clause-of : goal.returns-clause-of
returns-clause-of c =
    let p = problem_of c.args.inst.now in
    IfOk-weaker c.with_room.result (λ (t : Table). t ≡ record { room = c.args.limit; rows = [] }) (IsCoreOf p)
    (λ (t : Table) e. record { sound = subst (λ (x : Table). IsSound p x.room (rows_of x.rows)) (sym e) (c.runs_hold.ensures.start p c.args.limit) }) c.with_room.ensures

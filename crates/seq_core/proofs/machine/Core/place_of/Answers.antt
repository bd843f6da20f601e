use Rattle.std.proofs.Common.{◌∙◌, ap}
use Rattle.seq_inst.specs.Members.{members}
use Rattle.seq_core.specs.RowsOf.{rows_of, place_of_group}
use Rattle.seq_core.specs.Tables.{Table}
use Rattle.seq_core.proofs.TableLaws.{find-place}
use Rattle.seq_core.proofs.machine.Core.place_of.Goals as goal

pub returns : goal.returns
returns c = find-place c.self.inside.rows.items c.self.inside.index.placed (members c.args.group.now) _ c.self.invariant.numbers c.find.ensures ∙ ap (λ (t : Table). place_of_group (rows_of t.rows) (members c.args.group.now)) c.self.view_is

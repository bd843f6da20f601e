use Rattle.std.proofs.Common.{◌≡◌, ◌<◌, ◌∙◌, sym, ap, arith, subst, refl, length, get_or, set}
use Rattle.std.proofs.lemmas.List.{get_or_read}
use Rattle.seq_inst.specs.declared.outcome.Row.{Row}
use Rattle.seq_core.specs.Tables.{Table, placed_groups}
use Rattle.seq_core.specs.Changes.{change_row, capped}
use Rattle.seq_core.proofs.TableLaws.{no_row}
use Rattle.seq_core.proofs.ChangeLaws.{set-change, length-change, numbered-change}
use Rattle.seq_core.proofs.machine.Core.cap_to.Goals as goal

pub invariant_of-self : goal.invariant_of-self
invariant_of-self c =
    let rows = c.self.inside.rows.items in
    let i = c.self.invariant in
    let there : c.args.place < length rows = subst (λ (t : Table). c.args.place < length t.rows) (sym c.self.view_is) c.requires in
    let row : c.index_mut-row.result.now ≡ get_or rows c.args.place no_row = get_or_read rows c.args.place c.index_mut-row.result.now there c.index_mut-row.ensures.value no_row in
    let old : Row = c.index_mut-row.result.now in
    let new : Row = record { group = c.index_mut-row.result.now.group; low = c.index_mut-row.result.now.low; up = c.min-row.result } in
    let is : new ≡ capped c.args.to (get_or rows c.args.place no_row) = ap (λ n. record { group = old.group; low = old.low; up = n }) c.min-row.ensures ∙ ap (capped c.args.to) row in
    let changed : set rows c.args.place new ≡ change_row rows c.args.place (capped c.args.to) = ap (set rows c.args.place) is ∙ set-change rows c.args.place (capped c.args.to) there in
    let long = ap length changed ∙ length-change rows c.args.place (capped c.args.to) in
    let few = i.few in
    record {
      numbers = i.numbers ∙ sym (ap (placed_groups 0) changed ∙ numbered-change 0 rows c.args.place (capped c.args.to) (λ r. refl));
      few = omega arith;
      small = i.small;
      rows_room = i.rows_room;
    }

pub returns : goal.returns
returns c =
    let rows = c.self.inside.rows.items in
    let i = c.self.invariant in
    let there : c.args.place < length rows = subst (λ (t : Table). c.args.place < length t.rows) (sym c.self.view_is) c.requires in
    let row : c.index_mut-row.result.now ≡ get_or rows c.args.place no_row = get_or_read rows c.args.place c.index_mut-row.result.now there c.index_mut-row.ensures.value no_row in
    let old : Row = c.index_mut-row.result.now in
    let new : Row = record { group = c.index_mut-row.result.now.group; low = c.index_mut-row.result.now.low; up = c.min-row.result } in
    let is : new ≡ capped c.args.to (get_or rows c.args.place no_row) = ap (λ n. record { group = old.group; low = old.low; up = n }) c.min-row.ensures ∙ ap (capped c.args.to) row in
    let changed : set rows c.args.place new ≡ change_row rows c.args.place (capped c.args.to) = ap (set rows c.args.place) is ∙ set-change rows c.args.place (capped c.args.to) there in
    ap (λ l. record { room = c.self.inside.index.room; rows = l }) changed
    ∙ ap (λ (t : Table). record { room = t.room; rows = change_row t.rows c.args.place (capped c.args.to) }) c.self.view_is

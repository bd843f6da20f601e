use Rattle.std.proofs.Common.{◌≡◌, ◌+◌, ◌∙◌, ◌<◌, ◌++◌, ◌∷◌, [], ap, sym, arith, subst, length, rules, length-append}
use Rattle.seq_inst.specs.Members.{members}
use Rattle.seq_core.specs.Mapping.{Mapping, place_of}
use Rattle.seq_core.specs.RowsOf.{rows_of, place_of_group}
use Rattle.seq_core.specs.Tables.{Table, placed_groups}
use Rattle.seq_core.specs.Changes.{new_row}
use Rattle.seq_core.proofs.TableLaws.{numbered-place, numbered-more, length-numbered}
use Rattle.seq_core.proofs.machine.Core.add.Goals as goal

pub add-requires-clause-absent : goal.add-requires-clause-absent
add-requires-clause-absent c =
    let g = members c.args.group.now in
    ap (λ l. place_of l g) c.self.invariant.numbers ∙ numbered-place c.self.inside.rows.items g ∙ ap (λ (t : Table). place_of_group (rows_of t.rows) g) c.self.view_is ∙ c.requires.absent

pub add-requires-clause-room : goal.add-requires-clause-room
add-requires-clause-room c =
    let shown : length c.self.inside.rows.items < c.self.inside.index.room = subst (λ (t : Table). length t.rows < t.room) (sym c.self.view_is) c.requires.room in
    let e = ap length c.self.invariant.numbers in
    let l = length-numbered 0 c.self.inside.rows.items in
    omega arith

pub invariant_of-self : goal.invariant_of-self
invariant_of-self c =
    let rows = c.self.inside.rows.items in
    let g = c.args.group.now in
    let i = c.self.invariant in
    let few : length rows < c.self.inside.index.room = subst (λ (t : Table). length t.rows < t.room) (sym c.self.view_is) c.requires.room in
    let pushed : c.push.new.self.items ≡ rows ++ new_row g ∷ [] = search rules in
    let l1 = ap length pushed ∙ length-append rows (new_row g ∷ []) in
    let room : c.add.new.self.room ≡ c.self.inside.index.room = ap (λ (m : Mapping). m.room) c.add.ensures in
    let cap1 = c.push.ensures.capacity in
    let r1 = i.rows_room in
    let small = i.small in
    let n = c.self.inside.rows.ok.0 in
    let place : c.len-place.result ≡ 0 + length rows = omega arith in
    record {
      numbers = ap (λ (m : Mapping). m.placed) c.add.ensures ∙ ap (λ l. l ++ record { group = members g; place = c.len-place.result } ∷ []) i.numbers
          ∙ ap (λ k. placed_groups 0 rows ++ record { group = members g; place = k } ∷ []) place
          ∙ sym (ap (placed_groups 0) pushed ∙ numbered-more 0 rows (new_row g));
      few = omega arith;
      small = omega arith;
      rows_room = omega arith;
    }

use Rattle.std.proofs.Common.{◌≡◌, ◌∙◌, ap, sym, arith, Some, None, get_or}
use Rattle.std.specs.Prelude.{cond}
use Rattle.std.proofs.lemmas.Bool.{eq-eqb, ne_eqb}
use Rattle.std.proofs.lemmas.List.{get_or_read}
use Rattle.seq_theory.specs.Rows.{known_up, no_value}
use Rattle.seq_inst.specs.declared.outcome.Row.{Row}
use Rattle.seq_inst.specs.Members.{members}
use Rattle.seq_inst.specs.Instances.{problem_of}
use Rattle.seq_core.specs.RowsOf.{rows_of}
use Rattle.seq_core.specs.Tables.{Table}
use Rattle.seq_core.proofs.TableLaws.{find-place, place-found, no_row, known_up-found, known_up-absent, known_up-end}
use Rattle.seq_core.proofs.machine.Core.known_up.Goals as goal

pub returns-then-is_leaf : goal.returns-then-is_leaf
returns-then-is_leaf c = known_up-end (problem_of c.args.inst.now) (rows_of c.args.self.now.rows) (members c.args.group.now) (sym c.is_leaf.ensures ∙ c.if-is_leaf.true)

pub index-requires : goal.index-requires
index-requires c =
    let rows = c.self.inside.rows.items in
    let at = sym (find-place rows c.self.inside.index.placed (members c.args.group.now) _ c.self.invariant.numbers c.find.ensures) ∙ c.in-Some.is in
    let f = place-found rows (members c.args.group.now) c.in-Some.place at in
    let there = f.there in
    let n = c.self.inside.rows.ok.0 in
    omega arith

pub returns-then-up : goal.returns-then-up
returns-then-up c =
    let p = problem_of c.args.inst.now in
    let g = members c.args.group.now in
    let rows = c.self.inside.rows.items in
    let at = sym (find-place rows c.self.inside.index.placed g _ c.self.invariant.numbers c.find.ensures) ∙ c.in-Some.is in
    let f = place-found rows g c.in-Some.place at in
    let row : c.index.result.now ≡ get_or rows c.in-Some.place no_row = get_or_read rows c.in-Some.place c.index.result.now f.there c.index.ensures no_row in
    let up : (get_or rows c.in-Some.place no_row).up ≡ no_value = sym (ap (λ (r : Row). r.up) row) ∙ c.if-up.true in
    let value = known_up-found p rows g c.in-Some.place (sym c.is_leaf.ensures ∙ c.if-is_leaf.false) at in
    sym (value ∙ ap (λ b. cond b None (Some (get_or rows c.in-Some.place no_row).up)) (eq-eqb _ _ up)) ∙ ap (λ (t : Table). known_up p (rows_of t.rows) g) c.self.view_is

pub returns-else-up : goal.returns-else-up
returns-else-up c =
    let p = problem_of c.args.inst.now in
    let g = members c.args.group.now in
    let rows = c.self.inside.rows.items in
    let at = sym (find-place rows c.self.inside.index.placed g _ c.self.invariant.numbers c.find.ensures) ∙ c.in-Some.is in
    let f = place-found rows g c.in-Some.place at in
    let row : c.index.result.now ≡ get_or rows c.in-Some.place no_row = get_or_read rows c.in-Some.place c.index.result.now f.there c.index.ensures no_row in
    let up : (get_or rows c.in-Some.place no_row).up ≡ no_value → ⊥ = λ e. c.if-up.false (ap (λ (r : Row). r.up) row ∙ e) in
    let value = known_up-found p rows g c.in-Some.place (sym c.is_leaf.ensures ∙ c.if-is_leaf.false) at in
    ap (λ (r : Row). Some r.up) row ∙ sym (value ∙ ap (λ b. cond b None (Some (get_or rows c.in-Some.place no_row).up)) (ne_eqb _ _ up)) ∙ ap (λ (t : Table). known_up p (rows_of t.rows) g) c.self.view_is

pub returns-in-None : goal.returns-in-None
returns-in-None c =
    let p = problem_of c.args.inst.now in
    let g = members c.args.group.now in
    let rows = c.self.inside.rows.items in
    let at = sym (find-place rows c.self.inside.index.placed g _ c.self.invariant.numbers c.find.ensures) ∙ c.in-None.is in
    known_up-absent p rows g (sym c.is_leaf.ensures ∙ c.if-is_leaf.false) at ∙ ap (λ (t : Table). known_up p (rows_of t.rows) g) c.self.view_is

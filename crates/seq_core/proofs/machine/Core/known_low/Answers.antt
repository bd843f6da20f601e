use Rattle.std.proofs.Common.{◌≡◌, ◌∙◌, ◌≤◌, ap, sym, arith, subst, get_or, max}
use Rattle.std.proofs.lemmas.List.{get_or_read}
use Rattle.seq_theory.specs.Rows.{known_low}
use Rattle.seq_inst.specs.declared.outcome.Row.{Row}
use Rattle.seq_inst.specs.Members.{members}
use Rattle.seq_inst.specs.Instances.{problem_of}
use Rattle.seq_huff.specs.Bounds.{greatest_cost}
use Rattle.seq_core.specs.RowsOf.{rows_of, AreFit}
use Rattle.seq_core.specs.Tables.{Table}
use Rattle.seq_core.proofs.TableLaws.{find-place, place-found, no_row, row-among, known_low-found, known_low-absent, known_low-end}
use Rattle.seq_core.proofs.machine.Core.known_low.Goals as goal

pub returns-then-is_leaf-clause-value : goal.returns-then-is_leaf-clause-value
returns-then-is_leaf-clause-value c = known_low-end (problem_of c.args.inst.now) (rows_of c.args.self.now.rows) (members c.args.group.now) (sym c.is_leaf.ensures ∙ c.if-is_leaf.true)

pub index-requires : goal.index-requires
index-requires c =
    let rows = c.self.inside.rows.items in
    let at = sym (find-place rows c.self.inside.index.placed (members c.args.group.now) _ c.self.invariant.numbers c.find.ensures) ∙ c.in-Some.is in
    let f = place-found rows (members c.args.group.now) c.in-Some.place at in
    let there = f.there in
    let n = c.self.inside.rows.ok.0 in
    omega arith

pub returns-in-Some-clause-value : goal.returns-in-Some-clause-value
returns-in-Some-clause-value c =
    let p = problem_of c.args.inst.now in
    let g = members c.args.group.now in
    let rows = c.self.inside.rows.items in
    let at = sym (find-place rows c.self.inside.index.placed g _ c.self.invariant.numbers c.find.ensures) ∙ c.in-Some.is in
    let f = place-found rows g c.in-Some.place at in
    let row : c.index.result.now ≡ get_or rows c.in-Some.place no_row = get_or_read rows c.in-Some.place c.index.result.now f.there c.index.ensures no_row in
    let value = known_low-found p rows g c.in-Some.place (sym c.is_leaf.ensures ∙ c.if-is_leaf.false) at in
    c.max.ensures ∙ ap (λ (r : Row). max r.low c.bound-least.result) row ∙ ap (max (get_or rows c.in-Some.place no_row).low) c.bound-least.ensures.value ∙ sym value
    ∙ ap (λ (t : Table). known_low p (rows_of t.rows) g) c.self.view_is

pub returns-in-Some-clause-fits : goal.returns-in-Some-clause-fits
returns-in-Some-clause-fits c =
    let p = problem_of c.args.inst.now in
    let g = members c.args.group.now in
    let rows = c.self.inside.rows.items in
    let at = sym (find-place rows c.self.inside.index.placed g _ c.self.invariant.numbers c.find.ensures) ∙ c.in-Some.is in
    let fits : AreFit p (rows_of rows) = subst (λ (t : Table). AreFit p (rows_of t.rows)) (sym c.self.view_is) c.requires.fit in
    let f = place-found rows g c.in-Some.place at in
    let row : c.index.result.now ≡ get_or rows c.in-Some.place no_row = get_or_read rows c.in-Some.place c.index.result.now f.there c.index.ensures no_row in
    let fit = fits _ (row-among rows c.in-Some.place f.there) in
    let low : c.index.result.now.low ≤ greatest_cost = subst (λ (r : Row). r.low ≤ greatest_cost) (sym row) fit.small in
    let b = c.bound-least.ensures.fits in
    let m = c.max.ensures in
    omega arith

pub returns-in-None-clause-value : goal.returns-in-None-clause-value
returns-in-None-clause-value c =
    let p = problem_of c.args.inst.now in
    let g = members c.args.group.now in
    let rows = c.self.inside.rows.items in
    let at = sym (find-place rows c.self.inside.index.placed g _ c.self.invariant.numbers c.find.ensures) ∙ c.in-None.is in
    c.bound-least.ensures.value ∙ known_low-absent p rows g (sym c.is_leaf.ensures ∙ c.if-is_leaf.false) at ∙ ap (λ (t : Table). known_low p (rows_of t.rows) g) c.self.view_is

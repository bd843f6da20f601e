use Rattle.std.proofs.Common.{◌≡◌, ◌∷◌, ◌≤◌, ◌∙◌, ◌+◌, ◌<◌, ap, sym, arith, subst, length, get_or}
use Rattle.std.specs.List.{filter_map}
use Rattle.seq_theory.specs.Problem.{IsWithin, splits, splitting, least_of}
use Rattle.seq_theory.specs.Rows.{no_value, least_up}
use Rattle.seq_theory.specs.Below.{passing_below}
use Rattle.seq_theory.proofs.BelowLaws.{passing-zero, passing-in, passing-out, passing-all}
use Rattle.seq_core.specs.RowsOf.{rows_of}
use Rattle.seq_core.specs.Sums.{up_sum, lesser}
use Rattle.seq_core.proofs.TableLaws.{no_row, row-among}
use Rattle.seq_core.proofs.SumLaws.{allowed-up, least_value-more}
use Rattle.seq_core.proofs.machine.Core.least_up.Goals as goal
use Rattle.seq_core.proofs.machine.Core.least_up.Goals.{then-splits, else-splits}
use Rattle.std.proofs.lemmas.List.{get_or_read}
use Rattle.seq_inst.specs.declared.outcome.Row.{Row}
use Rattle.seq_inst.specs.Members.{members}
use Rattle.seq_inst.specs.Instances.{problem_of}
use Rattle.seq_core.specs.Tables.{Table}

pub weight_of-weight-requires : goal.weight_of-weight-requires
weight_of-weight-requires c =
    let p = problem_of c.args.inst.now in
    let t = c.args.self.now in
    let rows_there : c.args.place < length c.self.inside.rows.items = subst (λ (t : Table). c.args.place < length t.rows) (sym c.self.view_is) c.requires.there in
    let row : c.index.result.now ≡ get_or t.rows c.args.place no_row = get_or_read c.self.inside.rows.items c.args.place c.index.result.now rows_there c.index.ensures no_row ∙ ap (λ (t : Table). get_or t.rows c.args.place no_row) c.self.view_is in
    let fit = c.requires.fit _ (row-among t.rows c.args.place c.requires.there) in
    subst (λ (r : Row). IsWithin p (members r.group)) (sym row) fit.within

pub greedy_cost-greedy-requires : goal.greedy_cost-greedy-requires
greedy_cost-greedy-requires c =
    let p = problem_of c.args.inst.now in
    let t = c.args.self.now in
    let rows_there : c.args.place < length c.self.inside.rows.items = subst (λ (t : Table). c.args.place < length t.rows) (sym c.self.view_is) c.requires.there in
    let row : c.index.result.now ≡ get_or t.rows c.args.place no_row = get_or_read c.self.inside.rows.items c.args.place c.index.result.now rows_there c.index.ensures no_row ∙ ap (λ (t : Table). get_or t.rows c.args.place no_row) c.self.view_is in
    let fit = c.requires.fit _ (row-among t.rows c.args.place c.requires.there) in
    subst (λ (r : Row). IsWithin p (members r.group)) (sym row) fit.within

pub up_sum-requires-clause-within : goal.up_sum-requires-clause-within
up_sum-requires-clause-within c =
    let p = problem_of c.args.inst.now in
    let t = c.args.self.now in
    let rows_there : c.args.place < length c.self.inside.rows.items = subst (λ (t : Table). c.args.place < length t.rows) (sym c.self.view_is) c.requires.there in
    let row : c.index.result.now ≡ get_or t.rows c.args.place no_row = get_or_read c.self.inside.rows.items c.args.place c.index.result.now rows_there c.index.ensures no_row ∙ ap (λ (t : Table). get_or t.rows c.args.place no_row) c.self.view_is in
    let fit = c.requires.fit _ (row-among t.rows c.args.place c.requires.there) in
    subst (λ (r : Row). IsWithin p (members r.group)) (sym row) fit.within

pub loop-test-init : goal.loop-test-init
loop-test-init c =
    let p = problem_of c.args.inst.now in
    let xs = members c.index.result.now.group in
    sym (ap (λ l. least_of (c.greedy_cost-greedy.result ∷ filter_map (up_sum p c.args.self.now.rows xs) l)) (passing-zero (splits p xs)))

pub loop-test-preserved : goal.loop-test-preserved
loop-test-preserved c =
    let p = problem_of c.args.inst.now in
    let xs = members c.index.result.now.group in
    let f = up_sum p c.args.self.now.rows xs in
    let k = c.loop-test.test in
    let a = c.greedy_cost-greedy.result in
    let more = passing_below (splits p xs) (k + 1) in
    let i : c.loop-test.least ≡ least_of (a ∷ filter_map f (passing_below (splits p xs) k)) = c.loop-test.invariant in
    let small : a ≤ no_value = (let fits = c.greedy_cost-greedy.ensures.fits in omega arith) in
    elim c.if-splits.branch [
      | then-splits w ↦
          w.least-is ∙ w.lesser_of-least.ensures ∙ ap (λ o. lesser o c.loop-test.least) w.up_sum.ensures ∙ least_value-more f (passing_below (splits p xs) k) more k a c.loop-test.least small i (passing-in (splits p xs) k (sym c.splits.ensures ∙ w.if-splits.true))
      | else-splits w ↦
          w.least-is ∙ i ∙ sym (ap (λ l. least_of (a ∷ filter_map f l)) (passing-out (splits p xs) k (sym c.splits.ensures ∙ w.if-splits.false)))
    ]

pub returns : goal.returns
returns c =
    let p = problem_of c.args.inst.now in
    let t = c.args.self.now in
    let rows_there : c.args.place < length c.self.inside.rows.items = subst (λ (t : Table). c.args.place < length t.rows) (sym c.self.view_is) c.requires.there in
    let row : c.index.result.now ≡ get_or t.rows c.args.place no_row = get_or_read c.self.inside.rows.items c.args.place c.index.result.now rows_there c.index.ensures no_row ∙ ap (λ (t : Table). get_or t.rows c.args.place no_row) c.self.view_is in
    let xs = members c.index.result.now.group in
    let f = up_sum p t.rows xs in
    let n = c.len-tests.ensures ∙ c.args.inst.now.costs.ok.0 in
    let e : c.loop-test.test ≡ p.tests = omega arith in
    let least : c.loop-test.least ≡ least_of (c.greedy_cost-greedy.result ∷ filter_map f (splitting p xs)) = c.loop-test.invariant ∙ ap (λ l. least_of (c.greedy_cost-greedy.result ∷ filter_map f l)) (ap (passing_below (splits p xs)) e ∙ passing-all (splits p xs) p.tests) in
    let value = least ∙ ap (λ x. least_of (x ∷ filter_map f (splitting p xs))) c.greedy_cost-greedy.ensures.value in
    allowed-up p t.rows c.args.place c.requires.there _ (value ∙ ap (λ (r : Row). least_up p (rows_of t.rows) (members r.group)) row)

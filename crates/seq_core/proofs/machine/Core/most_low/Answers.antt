use Rattle.std.proofs.Common.{◌≡◌, ◌∙◌, ◌+◌, ◌<◌, ap, sym, arith, subst, refl, length, get_or, max, Some, None}
use Rattle.seq_theory.specs.Problem.{IsWithin, splits, splitting}
use Rattle.seq_theory.specs.Bound.{bound}
use Rattle.seq_theory.specs.Rows.{most_low}
use Rattle.seq_theory.proofs.LeastOfLaws.{LeastSoFar, least_so_far-more, least_so_far-all}
use Rattle.seq_theory.specs.Below.{passing_below}
use Rattle.seq_theory.proofs.BelowLaws.{passing-zero, passing-in, passing-out, passing-all}
use Rattle.seq_core.specs.RowsOf.{rows_of}
use Rattle.seq_core.specs.Sums.{low_sum}
use Rattle.seq_core.proofs.TableLaws.{no_row, row-among}
use Rattle.seq_core.proofs.SumLaws.{allowed-low, lesser-number}
use Rattle.seq_core.proofs.machine.Core.most_low.Goals as goal
use Rattle.seq_core.proofs.machine.Core.most_low.Goals.{then-splits, else-splits}
use Rattle.std.proofs.lemmas.List.{get_or_read}
use Rattle.seq_inst.specs.declared.outcome.Row.{Row}
use Rattle.seq_inst.specs.Members.{members}
use Rattle.seq_inst.specs.Instances.{problem_of}
use Rattle.seq_core.specs.Tables.{Table}

pub low_sum-sum-requires-clause-within : goal.low_sum-sum-requires-clause-within
low_sum-sum-requires-clause-within c =
    let p = problem_of c.args.inst.now in
    let t = c.args.self.now in
    let rows_there : c.args.place < length c.self.inside.rows.items = subst (λ (t : Table). c.args.place < length t.rows) (sym c.self.view_is) c.requires.there in
    let row : c.index.result.now ≡ get_or t.rows c.args.place no_row = get_or_read c.self.inside.rows.items c.args.place c.index.result.now rows_there c.index.ensures no_row ∙ ap (λ (t : Table). get_or t.rows c.args.place no_row) c.self.view_is in
    let fit = c.requires.fit _ (row-among t.rows c.args.place c.requires.there) in
    subst (λ (r : Row). IsWithin p (members r.group)) (sym row) fit.within

pub weight_of-weight-requires : goal.weight_of-weight-requires
weight_of-weight-requires c =
    let p = problem_of c.args.inst.now in
    let t = c.args.self.now in
    let rows_there : c.args.place < length c.self.inside.rows.items = subst (λ (t : Table). c.args.place < length t.rows) (sym c.self.view_is) c.requires.there in
    let row : c.index.result.now ≡ get_or t.rows c.args.place no_row = get_or_read c.self.inside.rows.items c.args.place c.index.result.now rows_there c.index.ensures no_row ∙ ap (λ (t : Table). get_or t.rows c.args.place no_row) c.self.view_is in
    let fit = c.requires.fit _ (row-among t.rows c.args.place c.requires.there) in
    subst (λ (r : Row). IsWithin p (members r.group)) (sym row) fit.within

pub bound-requires : goal.bound-requires
bound-requires c =
    let p = problem_of c.args.inst.now in
    let t = c.args.self.now in
    let rows_there : c.args.place < length c.self.inside.rows.items = subst (λ (t : Table). c.args.place < length t.rows) (sym c.self.view_is) c.requires.there in
    let row : c.index.result.now ≡ get_or t.rows c.args.place no_row = get_or_read c.self.inside.rows.items c.args.place c.index.result.now rows_there c.index.ensures no_row ∙ ap (λ (t : Table). get_or t.rows c.args.place no_row) c.self.view_is in
    let fit = c.requires.fit _ (row-among t.rows c.args.place c.requires.there) in
    subst (λ (r : Row). IsWithin p (members r.group)) (sym row) fit.within

pub loop-test-init : goal.loop-test-init
loop-test-init c =
    let p = problem_of c.args.inst.now in
    let xs = members c.index.result.now.group in
    subst (λ l. LeastSoFar (low_sum p c.args.self.now.rows xs) l None) (sym (passing-zero (splits p xs))) refl

pub loop-test-preserved : goal.loop-test-preserved
loop-test-preserved c =
    let p = problem_of c.args.inst.now in
    let xs = members c.index.result.now.group in
    let f = low_sum p c.args.self.now.rows xs in
    let more = passing_below (splits p xs) (c.loop-test.test + 1) in
    let i : LeastSoFar f (passing_below (splits p xs) c.loop-test.test) c.loop-test.least = c.loop-test.invariant in
    elim c.if-splits.branch [
      | then-splits w ↦
          (let next = least_so_far-more f (passing_below (splits p xs) c.loop-test.test) more c.loop-test.test w.low_sum-sum.result c.loop-test.least i (passing-in (splits p xs) c.loop-test.test (sym c.splits.ensures ∙ w.if-splits.true)) w.low_sum-sum.ensures in
          subst (LeastSoFar f more) (ap (λ n. Some n) (sym (w.lesser_of.ensures ∙ lesser-number c.loop-test.least w.low_sum-sum.result)) ∙ sym w.least-is) next)
      | else-splits w ↦
          subst (LeastSoFar f more) (sym w.least-is)
          (subst (λ l. LeastSoFar f l c.loop-test.least) (sym (passing-out (splits p xs) c.loop-test.test (sym c.splits.ensures ∙ w.if-splits.false))) i)
    ]

pub returns : goal.returns
returns c =
    let p = problem_of c.args.inst.now in
    let t = c.args.self.now in
    let rows_there : c.args.place < length c.self.inside.rows.items = subst (λ (t : Table). c.args.place < length t.rows) (sym c.self.view_is) c.requires.there in
    let row : c.index.result.now ≡ get_or t.rows c.args.place no_row = get_or_read c.self.inside.rows.items c.args.place c.index.result.now rows_there c.index.ensures no_row ∙ ap (λ (t : Table). get_or t.rows c.args.place no_row) c.self.view_is in
    let xs = members c.index.result.now.group in
    let f = low_sum p t.rows xs in
    let n = c.len-tests.ensures ∙ c.args.inst.now.costs.ok.0 in
    let e : c.loop-test.test ≡ p.tests = omega arith in
    let i : LeastSoFar f (splitting p xs) c.loop-test.least = subst (λ l. LeastSoFar f l c.loop-test.least) (ap (passing_below (splits p xs)) e ∙ passing-all (splits p xs) p.tests) c.loop-test.invariant in
    let least = c.unwrap_or.ensures ∙ least_so_far-all f (splitting p xs) c.loop-test.least i in
    let value = c.max.ensures ∙ ap (λ x. max x c.unwrap_or.result) c.bound.ensures.value ∙ ap (max (bound p xs)) least in
    allowed-low p t.rows c.args.place c.requires.there _ (value ∙ ap (λ (r : Row). most_low p (rows_of t.rows) (members r.group)) row)

use Rattle.std.proofs.Common.{◌≡◌, ◌∙◌, sym, ap, arith, subst, refl, Some, None, ◌+◌}
use Rattle.seq_theory.specs.Problem.{splits, splitting}
use Rattle.seq_theory.specs.Bound.{step_sum, bound}
use Rattle.seq_theory.proofs.LeastOfLaws.{LeastSoFar, least_so_far-more, least_so_far-all}
use Rattle.seq_theory.proofs.BelowLaws.{passing-zero, passing-in, passing-out, passing-all}
use Rattle.seq_theory.specs.Below.{passing_below}
use Rattle.seq_inst.specs.Members.{members}
use Rattle.seq_inst.specs.Instances.{problem_of}
use Rattle.seq_huff.proofs.BoundFits.{one_step-end, one_step-is}
use Rattle.seq_huff.proofs.GreedyCode.{greedy-small}
use Rattle.seq_huff.proofs.LeastBounds.{lesser-number, one_step-holds}
use Rattle.seq_huff.proofs.steps.one_step.Goals as goal
use Rattle.seq_huff.proofs.steps.one_step.Goals.{then-splits, else-splits}

pub returns-then-is_leaf : goal.returns-then-is_leaf
returns-then-is_leaf c =
    let value = one_step-end (problem_of c.args.inst.now) (members c.args.group.now) (sym c.is_leaf.ensures ∙ c.if-is_leaf.true) in
    one_step-holds c.bounds_hold.ensures c.args.inst.now (members c.args.group.now) 0 c.requires value (greedy-small c.args.inst.now c.args.group.now c.requires)

pub loop-test-init : goal.loop-test-init
loop-test-init c =
    let p = problem_of c.args.inst.now in
    let xs = members c.args.group.now in
    subst (λ l. LeastSoFar (step_sum p (bound p) xs) l None) (sym (passing-zero (splits p xs))) refl

pub loop-test-preserved : goal.loop-test-preserved
loop-test-preserved c =
    let p = problem_of c.args.inst.now in
    let xs = members c.args.group.now in
    let f = step_sum p (bound p) xs in
    let more = passing_below (splits p xs) (c.loop-test.test + 1) in
    let i : LeastSoFar f (passing_below (splits p xs) c.loop-test.test) c.loop-test.least = c.loop-test.invariant in
    elim c.if-splits.branch [
      | then-splits w ↦
          (let next = least_so_far-more f (passing_below (splits p xs) c.loop-test.test) more c.loop-test.test w.step_sum-sum.result c.loop-test.least i (passing-in (splits p xs) c.loop-test.test (sym c.splits.ensures ∙ w.if-splits.true)) w.step_sum-sum.ensures in
          subst (LeastSoFar f more) (ap (λ n. Some n) (sym (w.lesser_of.ensures ∙ lesser-number c.loop-test.least w.step_sum-sum.result)) ∙ sym w.least-is) next)
      | else-splits w ↦
          subst (LeastSoFar f more) (sym w.least-is)
          (subst (λ l. LeastSoFar f l c.loop-test.least) (sym (passing-out (splits p xs) c.loop-test.test (sym c.splits.ensures ∙ w.if-splits.false))) i)
    ]

pub returns : goal.returns
returns c =
    let p = problem_of c.args.inst.now in
    let xs = members c.args.group.now in
    let f = step_sum p (bound p) xs in
    let n = c.len-tests.ensures ∙ c.args.inst.now.costs.ok.0 in
    let e : c.loop-test.test ≡ p.tests = omega arith in
    let i : LeastSoFar f (splitting p xs) c.loop-test.least = subst (λ l. LeastSoFar f l c.loop-test.least) (ap (passing_below (splits p xs)) e ∙ passing-all (splits p xs) p.tests) c.loop-test.invariant in
    let value = c.max.ensures ∙ one_step-is p xs c.bound-low.result c.unwrap_or.result (sym c.is_leaf.ensures ∙ c.if-is_leaf.false) c.bound-low.ensures.value (c.unwrap_or.ensures ∙ least_so_far-all f (splitting p xs) c.loop-test.least i) in
    one_step-holds c.bounds_hold.ensures c.args.inst.now xs _ c.requires value (greedy-small c.args.inst.now c.args.group.now c.requires)

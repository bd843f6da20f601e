use Rattle.std.proofs.Common.{◌≡◌, ◌∙◌, ◌+◌, sym, ap, arith, subst, refl, Some, None}
use Rattle.seq_theory.specs.Problem.{splits, splitting}
use Rattle.seq_theory.specs.Bound.{step_sum, bound}
use Rattle.seq_theory.proofs.BelowLaws.{passing-zero, passing-in, passing-out, passing-all}
use Rattle.seq_theory.specs.Below.{passing_below}
use Rattle.seq_inst.specs.Members.{members}
use Rattle.seq_inst.specs.Instances.{problem_of}
use Rattle.seq_huff.proofs.GreedyCode.{ChosenSoFar, chosen-more, chosen-greedy, chosen-some}
use Rattle.seq_huff.proofs.choice.greedy_choice.Goals as goal
use Rattle.seq_huff.proofs.choice.greedy_choice.Goals.{then-splits, else-splits}

pub loop-test-init : goal.loop-test-init
loop-test-init c =
    let p = problem_of c.args.inst.now in
    let xs = members c.args.group.now in
    subst (λ l. ChosenSoFar (step_sum p (bound p) xs) l None) (sym (passing-zero (splits p xs))) refl

pub loop-test-preserved : goal.loop-test-preserved
loop-test-preserved c =
    let p = problem_of c.args.inst.now in
    let xs = members c.args.group.now in
    let f = step_sum p (bound p) xs in
    let more = passing_below (splits p xs) (c.loop-test.test + 1) in
    let i : ChosenSoFar f (passing_below (splits p xs) c.loop-test.test) c.loop-test.chosen = c.loop-test.invariant in
    elim c.if-splits.branch [
      | then-splits w ↦
          (let next = chosen-more f (passing_below (splits p xs) c.loop-test.test) more c.loop-test.test w.step_sum-sum.result c.loop-test.chosen i (passing-in (splits p xs) c.loop-test.test (sym c.splits.ensures ∙ w.if-splits.true)) w.step_sum-sum.ensures in
          subst (ChosenSoFar f more) (ap (λ n. Some n) (sym w.choose.ensures) ∙ sym w.chosen-is) next)
      | else-splits w ↦
          subst (ChosenSoFar f more) (sym w.chosen-is)
          (subst (λ l. ChosenSoFar f l c.loop-test.chosen) (sym (passing-out (splits p xs) c.loop-test.test (sym c.splits.ensures ∙ w.if-splits.false))) i)
    ]

pub unreachable-requires : goal.unreachable-requires
unreachable-requires c =
    let p = problem_of c.args.inst.now in
    let xs = members c.args.group.now in
    let f = step_sum p (bound p) xs in
    let n = c.len-tests.ensures ∙ c.args.inst.now.costs.ok.0 in
    let e : c.loop-test.test ≡ p.tests = omega arith in
    let i : ChosenSoFar f (splitting p xs) c.loop-test.chosen = subst (λ l. ChosenSoFar f l c.loop-test.chosen) (ap (passing_below (splits p xs)) e ∙ passing-all (splits p xs) p.tests) c.loop-test.invariant in
    chosen-some p xs c.args.inst.now.valid.told c.requires.within c.requires.more (subst (ChosenSoFar f (splitting p xs)) c.in-None.is i)

pub returns : goal.returns
returns c =
    let p = problem_of c.args.inst.now in
    let xs = members c.args.group.now in
    let f = step_sum p (bound p) xs in
    let n = c.len-tests.ensures ∙ c.args.inst.now.costs.ok.0 in
    let e : c.loop-test.test ≡ p.tests = omega arith in
    let i : ChosenSoFar f (splitting p xs) c.loop-test.chosen = subst (λ l. ChosenSoFar f l c.loop-test.chosen) (ap (passing_below (splits p xs)) e ∙ passing-all (splits p xs) p.tests) c.loop-test.invariant in
    chosen-greedy p xs c.in-Some.chosen (subst (ChosenSoFar f (splitting p xs)) c.in-Some.is i)

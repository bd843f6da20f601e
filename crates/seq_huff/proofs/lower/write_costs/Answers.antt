use Rattle.std.proofs.Common.{◌≡◌, ◌∙◌, ◌+◌, sym, ap, arith, length, subst, set, map}
use Rattle.std.proofs.lemmas.List.{get_or_read}
use Rattle.seq_theory.specs.Problem.{splits}
use Rattle.seq_theory.proofs.BelowLaws.{passing-zero, passing-in, passing-out, passing-all, length-passing}
use Rattle.seq_theory.specs.Below.{passing_below}
use Rattle.seq_inst.specs.Members.{members}
use Rattle.seq_inst.specs.Instances.{problem_of}
use Rattle.seq_huff.proofs.Written.{Written, written-none, written-more, written-same}
use Rattle.seq_huff.proofs.lower.write_costs.Goals as goal
use Rattle.seq_huff.proofs.lower.write_costs.Goals.{then-splits, else-splits}

pub loop-test-init : goal.loop-test-init
loop-test-init c = written-none _ _ _ (passing-zero (splits (problem_of c.args.inst.now) (members c.args.group.now)))

pub bounds-out-count : goal.bounds-out-count
bounds-out-count c =
    let f = splits (problem_of c.args.inst.now) (members c.args.group.now) in
    let n = c.len-tests.ensures ∙ c.args.inst.now.costs.ok.0 in
    let i : Written (problem_of c.args.inst.now).cost (passing_below f c.loop-test.test) c.loop-test.out c.loop-test.count = c.loop-test.invariant in
    let m = i.many in
    let l = length-passing f c.loop-test.test in
    let few = c.args.inst.now.valid.tests in
    let room = c.requires in
    omega arith

pub loop-test-preserved : goal.loop-test-preserved
loop-test-preserved c =
    let p = problem_of c.args.inst.now in
    let f = splits p (members c.args.group.now) in
    let n = c.len-tests.ensures ∙ c.args.inst.now.costs.ok.0 in
    let i : Written p.cost (passing_below f c.loop-test.test) c.loop-test.out c.loop-test.count = c.loop-test.invariant in
    let m = i.many in
    let l = length-passing f c.loop-test.test in
    let few = c.args.inst.now.valid.tests in
    let room = c.requires in
    let o = c.loop-test.auto in
    let more = passing_below f (c.loop-test.test + 1) in
    elim c.if-splits.branch [
      | then-splits w ↦
          (let v = w.from.ensures ∙ get_or_read c.args.inst.now.costs.items c.loop-test.test w.index.result.now (omega arith) w.index.ensures 0 in
          let next = written-more p.cost (passing_below f c.loop-test.test) more c.loop-test.out c.loop-test.count c.loop-test.test w.from.result i (omega arith) (passing-in f c.loop-test.test (sym c.splits.ensures ∙ w.if-splits.true)) v in
          subst (λ o. Written p.cost more o c.if-splits.count) (sym w.out-is) (subst (λ k. Written p.cost more (set c.loop-test.out c.loop-test.count w.from.result) k) (sym w.count-is) next))
      | else-splits w ↦
          (let next = written-same p.cost (passing_below f c.loop-test.test) more c.loop-test.out c.loop-test.count i (passing-out f c.loop-test.test (sym c.splits.ensures ∙ w.if-splits.false)) in
          subst (λ o. Written p.cost more o c.if-splits.count) (sym w.out-is) (subst (λ k. Written p.cost more c.loop-test.out k) (sym w.count-is) next))
    ]

pub returns-clause-count : goal.returns-clause-count
returns-clause-count c =
    let p = problem_of c.args.inst.now in
    let f = splits p (members c.args.group.now) in
    let n = c.len-tests.ensures ∙ c.args.inst.now.costs.ok.0 in
    let e : c.loop-test.test ≡ p.tests = omega arith in
    c.loop-test.invariant.many ∙ ap (λ m. length (passing_below f m)) e ∙ ap length (passing-all f p.tests)

pub returns-clause-costs : goal.returns-clause-costs
returns-clause-costs c =
    let p = problem_of c.args.inst.now in
    let f = splits p (members c.args.group.now) in
    let n = c.len-tests.ensures ∙ c.args.inst.now.costs.ok.0 in
    let e : c.loop-test.test ≡ p.tests = omega arith in
    c.loop-test.invariant.values ∙ ap (λ m. map p.cost (passing_below f m)) e ∙ ap (map p.cost) (passing-all f p.tests)

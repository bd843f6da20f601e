use Rattle.std.proofs.Common.{◌+◌, ◌∙◌, sym, arith, subst, refl}
use Rattle.seq_inst.specs.Members.{members}
use Rattle.seq_inst.specs.Instances.{problem_of}
use Rattle.seq_graph.proofs.GreedyChoiceLaws.{EstimatedSoFar, LeastIn, estimated-none, estimated-more, estimated-same, estimated-some}
use Rattle.seq_graph.proofs.greedy.estimates_of.Goals as goal
use Rattle.seq_graph.proofs.greedy.estimates_of.Goals.{then-splits, else-splits}

pub loop-test-init : goal.loop-test-init
loop-test-init c = estimated-none (problem_of c.args.inst.now) (members c.args.group.now) _ refl

pub loop-test-preserved : goal.loop-test-preserved
loop-test-preserved c =
    let p = problem_of c.args.inst.now in
    let g = members c.args.group.now in
    let i = c.loop-test.invariant in
    let n = c.len-tests.ensures ∙ c.args.inst.now.costs.ok.0 in
    let few = c.args.inst.now.valid.tests in
    let many = i.many in
    let below = c.loop-test-test.true in
    elim c.if-splits.branch [
      | then-splits w ↦
          (let next = estimated-more p g c.loop-test.test w.least_sum-sum.result c.loop-test.of_tests c.if-splits.of_tests c.loop-test.least w.choose_first.result i (omega arith) (omega arith) (sym c.splits.ensures ∙ w.if-splits.true) w.least_sum-sum.ensures w.of_tests-is w.choose_first.ensures in
          subst (EstimatedSoFar p g (c.loop-test.test + 1) c.if-splits.of_tests) (sym w.least-is) next)
      | else-splits w ↦ estimated-same p g c.loop-test.test c.loop-test.of_tests c.if-splits.of_tests c.loop-test.least c.if-splits.least i (sym c.splits.ensures ∙ w.if-splits.false) w.of_tests-is w.least-is
    ]

pub unreachable-requires : goal.unreachable-requires
unreachable-requires c =
    let p = problem_of c.args.inst.now in
    let g = members c.args.group.now in
    let n = c.len-tests.ensures ∙ c.args.inst.now.costs.ok.0 in
    let end = c.loop-test.auto.test-end in
    let past = c.loop-test-test.false in
    estimated-some p g c.loop-test.test c.loop-test.of_tests c.args.inst.now.valid.told c.requires.within c.requires.more (omega arith)
    (subst (EstimatedSoFar p g c.loop-test.test c.loop-test.of_tests) c.in-None.is c.loop-test.invariant)

pub returns : goal.returns
returns c =
    let p = problem_of c.args.inst.now in
    let g = members c.args.group.now in
    let n = c.len-tests.ensures ∙ c.args.inst.now.costs.ok.0 in
    let past = c.loop-test-test.false in
    record {
      low = λ t lt s. c.loop-test.invariant.low t (omega arith) s;
      first = subst (LeastIn p g c.loop-test.test) c.in-Some.is c.loop-test.invariant.is_least;
    }

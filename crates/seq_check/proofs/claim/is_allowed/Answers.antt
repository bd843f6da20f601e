use Rattle.std.proofs.Common.{sym, arith}
use Rattle.seq_theory.specs.Claims.{claimed}
use Rattle.seq_inst.specs.Instances.{problem_of}
use Rattle.seq_inst.specs.Members.{members}
use Rattle.seq_check.specs.GroupLooks.{claims_of}
use Rattle.seq_check.proofs.LeastSums.{some_below, in_the_end, sums_none, sums_more, sums_same}
use Rattle.seq_check.proofs.claim.is_allowed.Goals as goal
use Rattle.seq_check.proofs.claim.is_allowed.Goals.{then-splits+else-not-is_reached, else-splits}

pub returns-then-not-is_reached : goal.returns-then-not-is_reached
returns-then-not-is_reached c = λ lines are.
    let b = c.ordered_bound.ensures.value in
    let f = c.if-line-ordered_bound.false in
    let e = c.len-tests.ensures in
    let t = c.loop-test-test.true in
    some_below (problem_of c.args.inst.now) (claims_of lines) (members (c.args.line.now).group) (c.args.line.now).low c.loop-test.test (omega arith) (omega arith) (sym c.if-splits.ensures) (sym (c.if-not-is_reached.ensures lines are))

pub loop-test-init : goal.loop-test-init
loop-test-init c = λ lines are. sums_none (problem_of c.args.inst.now) (claimed (problem_of c.args.inst.now) (claims_of lines)) (members (c.args.line.now).group) (c.args.line.now).low

pub loop-test-preserved : goal.loop-test-preserved
loop-test-preserved c = λ lines are.
    let p = problem_of c.args.inst.now in
    let l = claimed p (claims_of lines) in
    let group = members (c.args.line.now).group in
    let low = (c.args.line.now).low in
    elim c.if-splits.branch [
      | then-splits+else-not-is_reached w ↦
          (let e = c.len-tests.ensures in
          let t = c.loop-test-test.true in
          rw (w.some-is) (sums_more p l group low c.loop-test.test c.loop-test.some (omega arith) (sym w.if-splits.ensures) (sym (w.if-not-is_reached.ensures lines are)) (c.loop-test.invariant lines are)))
      | else-splits w ↦ rw (w.some-is) (sums_same p l group low c.loop-test.test c.loop-test.some (sym w.if-splits.ensures) (c.loop-test.invariant lines are))
    ]

pub returns : goal.returns
returns c = λ lines are.
    let b = c.ordered_bound.ensures.value in
    let f = c.if-line-ordered_bound.false in
    let e = c.len-tests.ensures in
    let t = c.loop-test-test.false in
    in_the_end (problem_of c.args.inst.now) (claims_of lines) (members (c.args.line.now).group) (c.args.line.now).low c.loop-test.test c.loop-test.some (omega arith) (omega arith) (c.loop-test.invariant lines are)

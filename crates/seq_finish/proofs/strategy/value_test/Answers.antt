use Rattle.std.proofs.Common.{◌+◌, ◌<◌, sym, ◌∙◌, arith, Some}
use Rattle.std.proofs.lemmas.Bool.{true≢false}
use Rattle.seq_theory.specs.Problem.{splits}
use Rattle.seq_theory.specs.Graph.{val, is_value, step_value}
use Rattle.seq_theory.proofs.PartsRecursion.{splitting-splits, splitting-there}
use Rattle.seq_inst.specs.Members.{members}
use Rattle.seq_inst.specs.Instances.{problem_of}
use Rattle.seq_core.specs.Settled.{groups_in}
use Rattle.seq_finish.proofs.FirstWhere.{first_where-at}
use Rattle.seq_finish.proofs.StratLaws.{reaching, value_test-is}
use Rattle.seq_finish.proofs.strategy.value_test.Goals as goal

pub returns-then-reaches : goal.returns-then-reaches
returns-then-reaches c =
    let p = problem_of c.args.inst.now in
    let entered = groups_in c.args.rows.now in
    let xs = members c.args.group.now in
    let n = c.len-tests.ensures ∙ c.args.inst.now.costs.ok.0 in
    let lt = c.loop-test-test.true in
    let there : c.loop-test.test < 0 + p.tests = omega arith in
    sym (value_test-is p entered xs c.args.value c.loop-test.test c.requires.value
    (first_where-at (λ u. is_value (step_value p (val p entered) xs u) (Some c.args.value)) (splits p xs) p.tests 0 c.loop-test.test (omega arith) there
    (sym c.splits.ensures ∙ c.if-splits.true) (sym c.reaches.ensures ∙ c.if-reaches.true) (λ u le below s. c.loop-test.invariant u below s)))

pub unreachable-requires : goal.unreachable-requires
unreachable-requires c =
    let p = problem_of c.args.inst.now in
    let xs = members c.args.group.now in
    let r = reaching p (groups_in c.args.rows.now) xs c.args.value c.requires.more c.requires.value c.requires.dear in
    let n = c.len-tests.ensures ∙ c.args.inst.now.costs.ok.0 in
    let there = splitting-there p xs r.0 r.1 in
    let past = c.loop-test-test.false in
    let below : r.0 < c.loop-test.test = omega arith in
    true≢false (sym r.2 ∙ c.loop-test.invariant r.0 below (splitting-splits p xs r.0 r.1))

use Rattle.std.proofs.Common.{◌∙◌, arith}
use Rattle.seq_inst.specs.Members.{members}
use Rattle.seq_inst.specs.Instances.{problem_of}
use Rattle.seq_theory.proofs.PartsRecursion.{splitting-there}
use Rattle.seq_graph.proofs.GreedyChoiceLaws.{first-none, first-more, chosen-greedy, number_room-both}
use Rattle.seq_graph.proofs.numbers.Numbers.test_by.Goals as goal

pub bound_sum-sum-requires-clause-there : goal.bound_sum-sum-requires-clause-there
bound_sum-sum-requires-clause-there c =
    let t = splitting-there (problem_of c.args.inst.now) (members c.args.group.now) c.args.estimates.now.first c.requires.estimates.first in
    let n = c.args.inst.now.costs.ok.0 in
    omega arith

pub loop-test-init : goal.loop-test-init
loop-test-init c = first-none (problem_of c.args.inst.now) (members c.args.group.now) c.bound_sum-sum.new.self _ c.bound_sum-sum.ensures.numbers
    (record { test = c.requires.estimates.first; sum = c.bound_sum-sum.ensures.value })

pub loop-test-preserved : goal.loop-test-preserved
loop-test-preserved c =
    first-more (problem_of c.args.inst.now) (members c.args.group.now) _ c.loop-test.self c.better-chosen.new.self c.loop-test.test c.loop-test.chosen c.better-chosen.result c.loop-test.invariant
    c.better-chosen.ensures.numbers c.better-chosen.ensures.keeps c.better-chosen.ensures.room c.better-chosen.ensures.evaluated c.better-chosen.ensures.earlier c.better-chosen.ensures.test

pub returns-clause-keeps : goal.returns-clause-keeps
returns-clause-keeps c g n e = c.loop-test.invariant.keeps g n (c.bound_sum-sum.ensures.keeps g n e)

pub returns-clause-room : goal.returns-clause-room
returns-clause-room c = number_room-both _ _ _ c.bound_sum-sum.ensures.room c.loop-test.invariant.room

pub returns-clause-test : goal.returns-clause-test
returns-clause-test c =
    let n = c.len-tests.ensures ∙ c.args.inst.now.costs.ok.0 in
    let past = c.loop-test-test.false in
    chosen-greedy (problem_of c.args.inst.now) (members c.args.group.now) c.loop-test.chosen c.loop-test.invariant.is (λ t lt s. c.loop-test.invariant.each t (omega arith) s)

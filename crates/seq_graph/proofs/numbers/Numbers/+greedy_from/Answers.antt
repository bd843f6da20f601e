use Rattle.std.proofs.Common.{◌∙◌, sym, arith, refl}
use Rattle.std.proofs.lemmas.List.{get_or_read}
use Rattle.seq_theory.specs.Problem.{fail_part}
use Rattle.seq_inst.specs.Members.{members}
use Rattle.seq_inst.specs.Instances.{problem_of}
use Rattle.seq_theory.proofs.GreedyParts.{cost-end, greedy_there, greedy_parts}
use Rattle.seq_graph.proofs.GreedyChoiceLaws.{greedy-step, number_room-both}
use Rattle.seq_graph.proofs.numbers.Numbers.+greedy_from.Goals as goal

pub returns-then-is_leaf-clause-value : goal.returns-then-is_leaf-clause-value
returns-then-is_leaf-clause-value t c = cost-end (problem_of c.args.inst.now) (members c.args.group.now) c.args.inst.now.valid.told c.requires.within (sym c.is_leaf.ensures ∙ c.if-is_leaf.true)

pub returns-in-Some-clause-fits : goal.returns-in-Some-clause-fits
returns-in-Some-clause-fits t c =
    let e = (c.requires.numbers.greedy (members c.args.group.now) c.in-Some.known c.in-Some.ensures).cost in
    let small = c.args.inst.now.stands.greedy_fits c.args.group.now c.requires.within in
    omega arith

pub parts_of-parts-requires : goal.parts_of-parts-requires
parts_of-parts-requires t c =
    let l = greedy_there (problem_of c.args.inst.now) (members c.args.group.now) c.greedy_test-test.result c.args.inst.now.valid.told c.requires.within (sym c.is_leaf.ensures ∙ c.if-is_leaf.false) c.greedy_test-test.ensures.test in
    let n = c.args.inst.now.costs.ok.0 in
    omega arith

pub greedy_from-pass-requires : goal.greedy_from-pass-requires
greedy_from-pass-requires t c =
    let p = problem_of c.args.inst.now in
    let xs = members c.args.group.now in
    let e = sym c.is_leaf.ensures ∙ c.if-is_leaf.false in
    let g = greedy_parts p xs (members c.parts_of-parts.result.pass) (fail_part p c.greedy_test-test.result xs) c.greedy_test-test.result c.args.inst.now.valid.told c.requires.within e c.greedy_test-test.ensures.test c.parts_of-parts.ensures.pass refl in
    let d = c.decreases in
    let s = g.pass_smaller in
    (omega arith, (c.greedy_test-test.ensures.numbers, (g.pass_within, tt)))

pub greedy_from-fail-requires : goal.greedy_from-fail-requires
greedy_from-fail-requires t c =
    let p = problem_of c.args.inst.now in
    let xs = members c.args.group.now in
    let e = sym c.is_leaf.ensures ∙ c.if-is_leaf.false in
    let g = greedy_parts p xs (members c.parts_of-parts.result.pass) (members c.parts_of-parts.result.fail) c.greedy_test-test.result c.args.inst.now.valid.told c.requires.within e c.greedy_test-test.ensures.test c.parts_of-parts.ensures.pass c.parts_of-parts.ensures.fail in
    let d = c.decreases in
    let s = g.fail_smaller in
    (omega arith, (c.greedy_from-pass.ensures.numbers, (g.fail_within, tt)))

pub index-requires : goal.index-requires
index-requires t c =
    let l = greedy_there (problem_of c.args.inst.now) (members c.args.group.now) c.greedy_test-test.result c.args.inst.now.valid.told c.requires.within (sym c.is_leaf.ensures ∙ c.if-is_leaf.false) c.greedy_test-test.ensures.test in
    let n = c.args.inst.now.costs.ok.0 in
    omega arith

pub overflow_mul-cost : goal.overflow_mul-cost
overflow_mul-cost t c =
    let there = greedy_there (problem_of c.args.inst.now) (members c.args.group.now) c.greedy_test-test.result c.args.inst.now.valid.told c.requires.within (sym c.is_leaf.ensures ∙ c.if-is_leaf.false) c.greedy_test-test.ensures.test in
    let cost = c.from.ensures ∙ get_or_read c.args.inst.now.costs.items c.greedy_test-test.result c.index.result.now there c.index.ensures 0 in
    let s = greedy-step c.args.inst.now c.args.group.now c.parts_of-parts.result.pass c.parts_of-parts.result.fail c.greedy_test-test.result c.from.result c.weight_of-weight.result c.greedy_from-pass.result c.greedy_from-fail.result
    c.requires.within (sym c.is_leaf.ensures ∙ c.if-is_leaf.false) c.greedy_test-test.ensures.test c.parts_of-parts.ensures.pass c.parts_of-parts.ensures.fail cost c.weight_of-weight.ensures c.greedy_from-pass.ensures.value c.greedy_from-fail.ensures.value in
    let m = s.product in
    omega arith

pub overflow_add-cost-2 : goal.overflow_add-cost-2
overflow_add-cost-2 t c =
    let there = greedy_there (problem_of c.args.inst.now) (members c.args.group.now) c.greedy_test-test.result c.args.inst.now.valid.told c.requires.within (sym c.is_leaf.ensures ∙ c.if-is_leaf.false) c.greedy_test-test.ensures.test in
    let cost = c.from.ensures ∙ get_or_read c.args.inst.now.costs.items c.greedy_test-test.result c.index.result.now there c.index.ensures 0 in
    let s = greedy-step c.args.inst.now c.args.group.now c.parts_of-parts.result.pass c.parts_of-parts.result.fail c.greedy_test-test.result c.from.result c.weight_of-weight.result c.greedy_from-pass.result c.greedy_from-fail.result
    c.requires.within (sym c.is_leaf.ensures ∙ c.if-is_leaf.false) c.greedy_test-test.ensures.test c.parts_of-parts.ensures.pass c.parts_of-parts.ensures.fail cost c.weight_of-weight.ensures c.greedy_from-pass.ensures.value c.greedy_from-fail.ensures.value in
    let m = s.small in
    omega arith

pub keep_greedy-requires-clause-greedy : goal.keep_greedy-requires-clause-greedy
keep_greedy-requires-clause-greedy t c =
    let there = greedy_there (problem_of c.args.inst.now) (members c.args.group.now) c.greedy_test-test.result c.args.inst.now.valid.told c.requires.within (sym c.is_leaf.ensures ∙ c.if-is_leaf.false) c.greedy_test-test.ensures.test in
    let cost = c.from.ensures ∙ get_or_read c.args.inst.now.costs.items c.greedy_test-test.result c.index.result.now there c.index.ensures 0 in
    let s = greedy-step c.args.inst.now c.args.group.now c.parts_of-parts.result.pass c.parts_of-parts.result.fail c.greedy_test-test.result c.from.result c.weight_of-weight.result c.greedy_from-pass.result c.greedy_from-fail.result
    c.requires.within (sym c.is_leaf.ensures ∙ c.if-is_leaf.false) c.greedy_test-test.ensures.test c.parts_of-parts.ensures.pass c.parts_of-parts.ensures.fail cost c.weight_of-weight.ensures c.greedy_from-pass.ensures.value c.greedy_from-fail.ensures.value in
    record { test = c.greedy_test-test.ensures.test; cost = s.value }

pub returns-clause-keeps : goal.returns-clause-keeps
returns-clause-keeps t c g n e = c.keep_greedy.ensures.keeps g n (c.greedy_from-fail.ensures.keeps g n (c.greedy_from-pass.ensures.keeps g n (c.greedy_test-test.ensures.keeps g n e)))

pub returns-clause-room : goal.returns-clause-room
returns-clause-room t c = number_room-both _ _ _ (number_room-both _ _ _ c.greedy_test-test.ensures.room (number_room-both _ _ _ c.greedy_from-pass.ensures.room c.greedy_from-fail.ensures.room)) c.keep_greedy.ensures.room

pub returns-clause-value : goal.returns-clause-value
returns-clause-value t c =
    let there = greedy_there (problem_of c.args.inst.now) (members c.args.group.now) c.greedy_test-test.result c.args.inst.now.valid.told c.requires.within (sym c.is_leaf.ensures ∙ c.if-is_leaf.false) c.greedy_test-test.ensures.test in
    let cost = c.from.ensures ∙ get_or_read c.args.inst.now.costs.items c.greedy_test-test.result c.index.result.now there c.index.ensures 0 in
    let s = greedy-step c.args.inst.now c.args.group.now c.parts_of-parts.result.pass c.parts_of-parts.result.fail c.greedy_test-test.result c.from.result c.weight_of-weight.result c.greedy_from-pass.result c.greedy_from-fail.result
    c.requires.within (sym c.is_leaf.ensures ∙ c.if-is_leaf.false) c.greedy_test-test.ensures.test c.parts_of-parts.ensures.pass c.parts_of-parts.ensures.fail cost c.weight_of-weight.ensures c.greedy_from-pass.ensures.value c.greedy_from-fail.ensures.value in
    s.value

pub returns-clause-fits : goal.returns-clause-fits
returns-clause-fits t c =
    let there = greedy_there (problem_of c.args.inst.now) (members c.args.group.now) c.greedy_test-test.result c.args.inst.now.valid.told c.requires.within (sym c.is_leaf.ensures ∙ c.if-is_leaf.false) c.greedy_test-test.ensures.test in
    let cost = c.from.ensures ∙ get_or_read c.args.inst.now.costs.items c.greedy_test-test.result c.index.result.now there c.index.ensures 0 in
    let s = greedy-step c.args.inst.now c.args.group.now c.parts_of-parts.result.pass c.parts_of-parts.result.fail c.greedy_test-test.result c.from.result c.weight_of-weight.result c.greedy_from-pass.result c.greedy_from-fail.result
    c.requires.within (sym c.is_leaf.ensures ∙ c.if-is_leaf.false) c.greedy_test-test.ensures.test c.parts_of-parts.ensures.pass c.parts_of-parts.ensures.fail cost c.weight_of-weight.ensures c.greedy_from-pass.ensures.value c.greedy_from-fail.ensures.value in
    s.small

use Rattle.std.proofs.Common.{◌≡◌, ◌∙◌, ◌+◌, ◌*◌, ◌≤◌, sym, ap, subst, arith, refl}
use Rattle.std.proofs.lemmas.List.{get_or_read}
use Rattle.seq_theory.specs.Problem.{fail_part}
use Rattle.seq_inst.specs.Members.{members}
use Rattle.seq_inst.specs.Instances.{problem_of}
use Rattle.seq_huff.proofs.BoundFits.{product-le}
use Rattle.seq_huff.proofs.GreedyCode.{cost-end, greedy_there, greedy_parts, greedy-small}
use Rattle.seq_huff.specs.Bounds.{greatest_cost}
use Rattle.seq_huff.proofs.LeastBounds.{greedy-high}
use Rattle.seq_theory.specs.Greedy.{greedy_cost}
use Rattle.seq_huff.proofs.choice.+greedy_cost.Goals as goal

pub returns-then-is_leaf : goal.returns-then-is_leaf
returns-then-is_leaf t c =
    let value = cost-end (problem_of c.args.inst.now) (members c.args.group.now) c.args.inst.now.valid.told c.requires (sym c.is_leaf.ensures ∙ c.if-is_leaf.true) in
    record { value = value; high = greedy-high c.args.inst.now (members c.args.group.now) 0 c.requires value; fits = omega arith }

pub parts_of-parts-requires : goal.parts_of-parts-requires
parts_of-parts-requires t c =
    let l = greedy_there (problem_of c.args.inst.now) (members c.args.group.now) c.greedy_choice-test.result c.args.inst.now.valid.told c.requires (sym c.is_leaf.ensures ∙ c.if-is_leaf.false) c.greedy_choice-test.ensures in
    let n = c.args.inst.now.passes.ok.0 in
    let m = c.args.inst.now.valid.as_many in
    omega arith

pub index-requires : goal.index-requires
index-requires t c =
    let l = greedy_there (problem_of c.args.inst.now) (members c.args.group.now) c.greedy_choice-test.result c.args.inst.now.valid.told c.requires (sym c.is_leaf.ensures ∙ c.if-is_leaf.false) c.greedy_choice-test.ensures in
    let n = c.args.inst.now.costs.ok.0 in
    let m = c.args.inst.now.valid.as_many in
    omega arith

pub greedy_cost-pass-requires : goal.greedy_cost-pass-requires
greedy_cost-pass-requires t c =
    let p = problem_of c.args.inst.now in
    let xs = members c.args.group.now in
    let e = sym c.is_leaf.ensures ∙ c.if-is_leaf.false in
    let g = greedy_parts p xs (members c.parts_of-parts.result.pass) (fail_part p c.greedy_choice-test.result xs) c.greedy_choice-test.result c.args.inst.now.valid.told c.requires e c.greedy_choice-test.ensures c.parts_of-parts.ensures.pass refl in
    let d = c.decreases in
    let s = g.pass_smaller in
    (omega arith, (g.pass_within))

pub greedy_cost-fail-requires : goal.greedy_cost-fail-requires
greedy_cost-fail-requires t c =
    let p = problem_of c.args.inst.now in
    let xs = members c.args.group.now in
    let e = sym c.is_leaf.ensures ∙ c.if-is_leaf.false in
    let g = greedy_parts p xs (members c.parts_of-parts.result.pass) (members c.parts_of-parts.result.fail) c.greedy_choice-test.result c.args.inst.now.valid.told c.requires e c.greedy_choice-test.ensures c.parts_of-parts.ensures.pass c.parts_of-parts.ensures.fail in
    let d = c.decreases in
    let s = g.fail_smaller in
    (omega arith, (g.fail_within))

pub overflow_mul-result : goal.overflow_mul-result
overflow_mul-result t c =
    let p = problem_of c.args.inst.now in
    let xs = members c.args.group.now in
    let e = sym c.is_leaf.ensures ∙ c.if-is_leaf.false in
    let g = greedy_parts p xs (members c.parts_of-parts.result.pass) (members c.parts_of-parts.result.fail) c.greedy_choice-test.result c.args.inst.now.valid.told c.requires e c.greedy_choice-test.ensures c.parts_of-parts.ensures.pass c.parts_of-parts.ensures.fail in
    let there = g.there in
    let n = c.args.inst.now.costs.ok.0 in
    let cost : c.from.result ≡ p.cost c.greedy_choice-test.result = c.from.ensures ∙ get_or_read c.args.inst.now.costs.items c.greedy_choice-test.result c.index.result.now there c.index.ensures 0 in
    let w = c.weight_of-weight.ensures in
    let a = greedy-small c.args.inst.now c.parts_of-parts.result.pass g.pass_within in
    let b = greedy-small c.args.inst.now c.parts_of-parts.result.fail g.fail_within in
    let ea = c.greedy_cost-pass.ensures.value in
    let eb = c.greedy_cost-fail.ensures.value in
    let l = c.args.inst.now.stands.light c.args.group.now c.requires in
    let most = (c.args.inst.now.valid.costs c.greedy_choice-test.result there).1 in
    let m = product-le c.from.result c.weight_of-weight.result 1000000 4097000000 (omega arith) (omega arith) in
    omega arith

pub overflow_add-result : goal.overflow_add-result
overflow_add-result t c =
    let p = problem_of c.args.inst.now in
    let xs = members c.args.group.now in
    let e = sym c.is_leaf.ensures ∙ c.if-is_leaf.false in
    let g = greedy_parts p xs (members c.parts_of-parts.result.pass) (members c.parts_of-parts.result.fail) c.greedy_choice-test.result c.args.inst.now.valid.told c.requires e c.greedy_choice-test.ensures c.parts_of-parts.ensures.pass c.parts_of-parts.ensures.fail in
    let there = g.there in
    let n = c.args.inst.now.costs.ok.0 in
    let cost : c.from.result ≡ p.cost c.greedy_choice-test.result = c.from.ensures ∙ get_or_read c.args.inst.now.costs.items c.greedy_choice-test.result c.index.result.now there c.index.ensures 0 in
    let w = c.weight_of-weight.ensures in
    let a = greedy-small c.args.inst.now c.parts_of-parts.result.pass g.pass_within in
    let b = greedy-small c.args.inst.now c.parts_of-parts.result.fail g.fail_within in
    let ea = c.greedy_cost-pass.ensures.value in
    let eb = c.greedy_cost-fail.ensures.value in
    let l = c.args.inst.now.stands.light c.args.group.now c.requires in
    let most = (c.args.inst.now.valid.costs c.greedy_choice-test.result there).1 in
    let m = product-le c.from.result c.weight_of-weight.result 1000000 4097000000 (omega arith) (omega arith) in
    omega arith

pub overflow_add-result-2 : goal.overflow_add-result-2
overflow_add-result-2 t c =
    let p = problem_of c.args.inst.now in
    let xs = members c.args.group.now in
    let e = sym c.is_leaf.ensures ∙ c.if-is_leaf.false in
    let g = greedy_parts p xs (members c.parts_of-parts.result.pass) (members c.parts_of-parts.result.fail) c.greedy_choice-test.result c.args.inst.now.valid.told c.requires e c.greedy_choice-test.ensures c.parts_of-parts.ensures.pass c.parts_of-parts.ensures.fail in
    let there = g.there in
    let n = c.args.inst.now.costs.ok.0 in
    let cost : c.from.result ≡ p.cost c.greedy_choice-test.result = c.from.ensures ∙ get_or_read c.args.inst.now.costs.items c.greedy_choice-test.result c.index.result.now there c.index.ensures 0 in
    let w = c.weight_of-weight.ensures in
    let a = greedy-small c.args.inst.now c.parts_of-parts.result.pass g.pass_within in
    let b = greedy-small c.args.inst.now c.parts_of-parts.result.fail g.fail_within in
    let ea = c.greedy_cost-pass.ensures.value in
    let eb = c.greedy_cost-fail.ensures.value in
    let l = c.args.inst.now.stands.light c.args.group.now c.requires in
    let most = (c.args.inst.now.valid.costs c.greedy_choice-test.result there).1 in
    let m = product-le c.from.result c.weight_of-weight.result 1000000 4097000000 (omega arith) (omega arith) in
    omega arith

pub returns : goal.returns
returns t c =
    let p = problem_of c.args.inst.now in
    let xs = members c.args.group.now in
    let e = sym c.is_leaf.ensures ∙ c.if-is_leaf.false in
    let g = greedy_parts p xs (members c.parts_of-parts.result.pass) (members c.parts_of-parts.result.fail) c.greedy_choice-test.result c.args.inst.now.valid.told c.requires e c.greedy_choice-test.ensures c.parts_of-parts.ensures.pass c.parts_of-parts.ensures.fail in
    let there = g.there in
    let cost : c.from.result ≡ p.cost c.greedy_choice-test.result = c.from.ensures ∙ get_or_read c.args.inst.now.costs.items c.greedy_choice-test.result c.index.result.now there c.index.ensures 0 in
    let product = ap (λ x. x * c.weight_of-weight.result) cost ∙ ap (λ x. p.cost c.greedy_choice-test.result * x) c.weight_of-weight.ensures in
    let ea = c.greedy_cost-pass.ensures.value in
    let eb = c.greedy_cost-fail.ensures.value in
    let total = g.cost in
    let value : c.from.result * c.weight_of-weight.result + (c.greedy_cost-pass.result + c.greedy_cost-fail.result) ≡ greedy_cost p xs = omega arith in
    let small = greedy-small c.args.inst.now c.args.group.now c.requires in
    record { value = value; high = greedy-high c.args.inst.now xs _ c.requires value; fits = subst (λ n. n ≤ greatest_cost) (sym value) small }

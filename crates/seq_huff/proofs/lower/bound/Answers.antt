use Rattle.std.proofs.Common.{◌∙◌, ◌*◌, ◌/◌, ◌≤◌, sym, ap, subst, arith}
use Rattle.seq_theory.specs.Problem.{weight_of}
use Rattle.seq_theory.specs.Huffman.{upward}
use Rattle.seq_inst.specs.Members.{members}
use Rattle.seq_inst.specs.Instances.{problem_of}
use Rattle.seq_huff.proofs.BoundFits.{bound-fits, products-fit, bound-is, bound-end, bound-small}
use Rattle.seq_huff.specs.Bounds.{greatest_cost}
use Rattle.seq_huff.proofs.LeastBounds.{bound-low}
use Rattle.seq_huff.proofs.lower.bound.Goals as goal

pub returns-then-is_leaf : goal.returns-then-is_leaf
returns-then-is_leaf c =
    let value = bound-end (problem_of c.args.inst.now) (members c.args.group.now) (sym c.is_leaf.ensures ∙ c.if-is_leaf.true) in
    record { value = value; low = bound-low c.bounds_hold.ensures c.args.inst.now (members c.args.group.now) 0 c.requires value; fits = omega arith }

pub nonzero_div-whole : goal.nonzero_div-whole
nonzero_div-whole c =
    let costs = c.sort_upward.ensures ∙ ap upward c.write_costs-count.ensures.costs in
    let f = bound-fits c.args.inst.now c.args.group.now c.sort_upward.new.numbers c.requires (sym c.is_leaf.ensures ∙ c.if-is_leaf.false) costs in
    let a = f.positive in
    let w = c.weight_of-weight.ensures in
    omega arith

pub nonzero_rem-rest : goal.nonzero_rem-rest
nonzero_rem-rest c =
    let costs = c.sort_upward.ensures ∙ ap upward c.write_costs-count.ensures.costs in
    let f = bound-fits c.args.inst.now c.args.group.now c.sort_upward.new.numbers c.requires (sym c.is_leaf.ensures ∙ c.if-is_leaf.false) costs in
    let a = f.positive in
    let w = c.weight_of-weight.ensures in
    omega arith

pub sum_of_first-requires : goal.sum_of_first-requires
sum_of_first-requires c =
    let costs = c.sort_upward.ensures ∙ ap upward c.write_costs-count.ensures.costs in
    let f = bound-fits c.args.inst.now c.args.group.now c.sort_upward.new.numbers c.requires (sym c.is_leaf.ensures ∙ c.if-is_leaf.false) costs in
    let a = f.costs_small in
    omega arith

pub overflow_mul-result : goal.overflow_mul-result
overflow_mul-result c =
    let costs = c.sort_upward.ensures ∙ ap upward c.write_costs-count.ensures.costs in
    let f = bound-fits c.args.inst.now c.args.group.now c.sort_upward.new.numbers c.requires (sym c.is_leaf.ensures ∙ c.if-is_leaf.false) costs in
    let a = f.product (c.huffman-huffman_cost.result / c.weight_of-weight.result) in
    let e = ap (λ x. x * c.sum_of_first.result) c.weight_of-weight.ensures ∙ ap (λ x. weight_of (problem_of c.args.inst.now) (members c.args.group.now) * x) c.sum_of_first.ensures in
    omega arith

pub overflow_mul-result-2 : goal.overflow_mul-result-2
overflow_mul-result-2 c =
    let costs = c.sort_upward.ensures ∙ ap upward c.write_costs-count.ensures.costs in
    let f = bound-fits c.args.inst.now c.args.group.now c.sort_upward.new.numbers c.requires (sym c.is_leaf.ensures ∙ c.if-is_leaf.false) costs in
    let m = products-fit (problem_of c.args.inst.now) (members c.args.group.now) c.sort_upward.new.numbers c.huffman-huffman_cost.result c.weight_of-weight.result c.sum_of_first.result c.number_after.result f c.weight_of-weight.ensures c.sum_of_first.ensures c.number_after.ensures in
    let a = m.first in
    let b = m.second in
    omega arith

pub overflow_add-result : goal.overflow_add-result
overflow_add-result c =
    let costs = c.sort_upward.ensures ∙ ap upward c.write_costs-count.ensures.costs in
    let f = bound-fits c.args.inst.now c.args.group.now c.sort_upward.new.numbers c.requires (sym c.is_leaf.ensures ∙ c.if-is_leaf.false) costs in
    let m = products-fit (problem_of c.args.inst.now) (members c.args.group.now) c.sort_upward.new.numbers c.huffman-huffman_cost.result c.weight_of-weight.result c.sum_of_first.result c.number_after.result f c.weight_of-weight.ensures c.sum_of_first.ensures c.number_after.ensures in
    let a = m.first in
    let b = m.second in
    omega arith

pub returns : goal.returns
returns c =
    let value = bound-is (problem_of c.args.inst.now) (members c.args.group.now) c.sort_upward.new.numbers c.huffman-huffman_cost.result c.weight_of-weight.result c.sum_of_first.result c.number_after.result
    (sym c.is_leaf.ensures ∙ c.if-is_leaf.false) (c.sort_upward.ensures ∙ ap upward c.write_costs-count.ensures.costs) c.huffman-huffman_cost.ensures.value c.weight_of-weight.ensures c.sum_of_first.ensures c.number_after.ensures in
    let small = bound-small c.args.inst.now c.args.group.now c.requires in
    record { value = value; low = bound-low c.bounds_hold.ensures c.args.inst.now (members c.args.group.now) _ c.requires value; fits = subst (λ n. n ≤ greatest_cost) (sym value) small }

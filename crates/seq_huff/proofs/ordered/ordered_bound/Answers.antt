use Rattle.std.proofs.Common.{◌∙◌, ◌≤◌, sym, subst, refl, arith}
use Rattle.seq_theory.specs.Bound.{splitting_costs}
use Rattle.seq_inst.specs.Members.{members}
use Rattle.seq_inst.specs.Instances.{problem_of}
use Rattle.seq_huff.specs.Bounds.{greatest_cost}
use Rattle.seq_huff.proofs.BoundFits.{bound-fits, products-fit, bound-is, bound-end, bound-small}
use Rattle.seq_huff.proofs.LeastBounds.{bound-low}
use Rattle.seq_huff.proofs.OrderLaws.{read-weights}
use Rattle.seq_huff.proofs.ordered.ordered_bound.Goals as goal

pub returns-then-is_leaf : goal.returns-then-is_leaf
returns-then-is_leaf c =
    let value = bound-end (problem_of c.args.inst.now) (members c.args.group.now) (sym c.is_leaf.ensures ∙ c.if-is_leaf.true) in
    record { value = value; low = bound-low c.bounds_hold.ensures c.args.inst.now (members c.args.group.now) 0 c.requires.within value; fits = omega arith }

pub sum_of-weight-requires : goal.sum_of-weight-requires
sum_of-weight-requires c =
    let read = read-weights c.args.inst.now c.args.group.now _ c.requires.within c.write_upward-count.ensures.weights in
    let s = read.sums in
    let l = c.args.inst.now.stands.light c.args.group.now c.requires.within in
    omega arith

pub merge_sum-huffman_cost-requires : goal.merge_sum-huffman_cost-requires
merge_sum-huffman_cost-requires c =
    let read = read-weights c.args.inst.now c.args.group.now _ c.requires.within c.write_upward-count.ensures.weights in
    record { up = read.up; fits = read.fits }

pub nonzero_div-whole : goal.nonzero_div-whole
nonzero_div-whole c =
    let p = problem_of c.args.inst.now in
    let xs = members c.args.group.now in
    let more = sym c.is_leaf.ensures ∙ c.if-is_leaf.false in
    let read = read-weights c.args.inst.now c.args.group.now _ c.requires.within c.write_upward-count.ensures.weights in
    let f = bound-fits c.args.inst.now c.args.group.now (splitting_costs p xs) c.requires.within more refl in
    let w = c.sum_of-weight.ensures ∙ read.sums in
    let a = f.positive in
    omega arith

pub nonzero_rem-rest : goal.nonzero_rem-rest
nonzero_rem-rest c =
    let p = problem_of c.args.inst.now in
    let xs = members c.args.group.now in
    let more = sym c.is_leaf.ensures ∙ c.if-is_leaf.false in
    let read = read-weights c.args.inst.now c.args.group.now _ c.requires.within c.write_upward-count.ensures.weights in
    let f = bound-fits c.args.inst.now c.args.group.now (splitting_costs p xs) c.requires.within more refl in
    let w = c.sum_of-weight.ensures ∙ read.sums in
    let a = f.positive in
    omega arith

pub overflow_mul-result : goal.overflow_mul-result
overflow_mul-result c =
    let p = problem_of c.args.inst.now in
    let xs = members c.args.group.now in
    let more = sym c.is_leaf.ensures ∙ c.if-is_leaf.false in
    let read = read-weights c.args.inst.now c.args.group.now _ c.requires.within c.write_upward-count.ensures.weights in
    let f = bound-fits c.args.inst.now c.args.group.now (splitting_costs p xs) c.requires.within more refl in
    let w = c.sum_of-weight.ensures ∙ read.sums in
    let m = products-fit p xs (splitting_costs p xs) c.merge_sum-huffman_cost.result c.sum_of-weight.result c.first_costs-costs.result.sum c.first_costs-costs.result.next f w c.first_costs-costs.ensures.sum c.first_costs-costs.ensures.next in
    let a = m.first in
    let b = m.second in
    omega arith

pub overflow_mul-result-2 : goal.overflow_mul-result-2
overflow_mul-result-2 c =
    let p = problem_of c.args.inst.now in
    let xs = members c.args.group.now in
    let more = sym c.is_leaf.ensures ∙ c.if-is_leaf.false in
    let read = read-weights c.args.inst.now c.args.group.now _ c.requires.within c.write_upward-count.ensures.weights in
    let f = bound-fits c.args.inst.now c.args.group.now (splitting_costs p xs) c.requires.within more refl in
    let w = c.sum_of-weight.ensures ∙ read.sums in
    let m = products-fit p xs (splitting_costs p xs) c.merge_sum-huffman_cost.result c.sum_of-weight.result c.first_costs-costs.result.sum c.first_costs-costs.result.next f w c.first_costs-costs.ensures.sum c.first_costs-costs.ensures.next in
    let a = m.first in
    let b = m.second in
    omega arith

pub overflow_add-result : goal.overflow_add-result
overflow_add-result c =
    let p = problem_of c.args.inst.now in
    let xs = members c.args.group.now in
    let more = sym c.is_leaf.ensures ∙ c.if-is_leaf.false in
    let read = read-weights c.args.inst.now c.args.group.now _ c.requires.within c.write_upward-count.ensures.weights in
    let f = bound-fits c.args.inst.now c.args.group.now (splitting_costs p xs) c.requires.within more refl in
    let w = c.sum_of-weight.ensures ∙ read.sums in
    let m = products-fit p xs (splitting_costs p xs) c.merge_sum-huffman_cost.result c.sum_of-weight.result c.first_costs-costs.result.sum c.first_costs-costs.result.next f w c.first_costs-costs.ensures.sum c.first_costs-costs.ensures.next in
    let a = m.first in
    let b = m.second in
    omega arith

pub returns : goal.returns
returns c =
    let p = problem_of c.args.inst.now in
    let xs = members c.args.group.now in
    let more = sym c.is_leaf.ensures ∙ c.if-is_leaf.false in
    let read = read-weights c.args.inst.now c.args.group.now _ c.requires.within c.write_upward-count.ensures.weights in
    let w = c.sum_of-weight.ensures ∙ read.sums in
    let value = bound-is p xs (splitting_costs p xs) c.merge_sum-huffman_cost.result c.sum_of-weight.result c.first_costs-costs.result.sum c.first_costs-costs.result.next
    more refl (c.merge_sum-huffman_cost.ensures ∙ read.cost) w c.first_costs-costs.ensures.sum c.first_costs-costs.ensures.next in
    let small = bound-small c.args.inst.now c.args.group.now c.requires.within in
    record { value = value; low = bound-low c.bounds_hold.ensures c.args.inst.now xs _ c.requires.within value; fits = subst (λ n. n ≤ greatest_cost) (sym value) small }

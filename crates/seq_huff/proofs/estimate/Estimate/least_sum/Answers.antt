use Rattle.std.proofs.Common.{◌≡◌, ◌<◌, ◌∙◌, arith}
use Rattle.std.proofs.lemmas.List.{get_or_read}
use Rattle.seq_inst.specs.Instances.{problem_of}
use Rattle.seq_huff.proofs.SumsLaws.{each-small}
use Rattle.seq_huff.proofs.EstimateLaws.{mass-parts, pass-mass, fail-mass, pass-least, fail-least, least-sum}
use Rattle.seq_huff.proofs.estimate.Estimate.least_sum.Goals as goal

pub masses_of-masses-requires-clause-within_pass : goal.masses_of-masses-requires-clause-within_pass
masses_of-masses-requires-clause-within_pass c = c.parts_of-parts.ensures.pass_within c.requires.within

pub masses_of-masses-requires-clause-within_fail : goal.masses_of-masses-requires-clause-within_fail
masses_of-masses-requires-clause-within_fail c = c.parts_of-parts.ensures.fail_within c.requires.within

pub masses_of-masses-requires-clause-classes : goal.masses_of-masses-requires-clause-classes
masses_of-masses-requires-clause-classes c = (mass-parts c.args.inst.now c.args.group.now c.parts_of-parts.result.pass c.parts_of-parts.result.fail c.args.test c.args.self.now.mass c.requires.of.mass c.parts_of-parts.ensures.pass c.parts_of-parts.ensures.fail).0

pub masses_of-masses-requires-clause-weight : goal.masses_of-masses-requires-clause-weight
masses_of-masses-requires-clause-weight c = (mass-parts c.args.inst.now c.args.group.now c.parts_of-parts.result.pass c.parts_of-parts.result.fail c.args.test c.args.self.now.mass c.requires.of.mass c.parts_of-parts.ensures.pass c.parts_of-parts.ensures.fail).1

pub masses_of-masses-requires-clause-potential : goal.masses_of-masses-requires-clause-potential
masses_of-masses-requires-clause-potential c = (mass-parts c.args.inst.now c.args.group.now c.parts_of-parts.result.pass c.parts_of-parts.result.fail c.args.test c.args.self.now.mass c.requires.of.mass c.parts_of-parts.ensures.pass c.parts_of-parts.ensures.fail).2

pub least_huffman-pass_huffman-requires-clause-within : goal.least_huffman-pass_huffman-requires-clause-within
least_huffman-pass_huffman-requires-clause-within c = c.parts_of-parts.ensures.pass_within c.requires.within

pub least_huffman-fail_huffman-requires-clause-within : goal.least_huffman-fail_huffman-requires-clause-within
least_huffman-fail_huffman-requires-clause-within c = c.parts_of-parts.ensures.fail_within c.requires.within

pub least_bound-pass_least-requires-clause-sums : goal.least_bound-pass_least-requires-clause-sums
least_bound-pass_least-requires-clause-sums c = each-small c.args.inst.now c.args.group.now c.args.self.now.sums c.requires.of.sums

pub least_bound-pass_least-requires-clause-some : goal.least_bound-pass_least-requires-clause-some
least_bound-pass_least-requires-clause-some c =
    let p = problem_of c.args.inst.now in
    let n = c.args.inst.now.costs.ok.0 in
    let t = c.requires.there in
    let there : c.args.test < p.tests = omega arith in
    let pass-mass-is = pass-mass c.args.inst.now c.args.group.now c.parts_of-parts.result.pass c.args.test c.requires.within there c.requires.splits c.parts_of-parts.ensures.pass c.masses_of-masses.result.pass c.masses_of-masses.ensures.pass in
    pass-mass-is.some

pub least_bound-pass_least-requires-clause-light : goal.least_bound-pass_least-requires-clause-light
least_bound-pass_least-requires-clause-light c =
    let p = problem_of c.args.inst.now in
    let n = c.args.inst.now.costs.ok.0 in
    let t = c.requires.there in
    let there : c.args.test < p.tests = omega arith in
    let pass-mass-is = pass-mass c.args.inst.now c.args.group.now c.parts_of-parts.result.pass c.args.test c.requires.within there c.requires.splits c.parts_of-parts.ensures.pass c.masses_of-masses.result.pass c.masses_of-masses.ensures.pass in
    pass-mass-is.light

pub least_bound-pass_least-requires-clause-few : goal.least_bound-pass_least-requires-clause-few
least_bound-pass_least-requires-clause-few c =
    let p = problem_of c.args.inst.now in
    let n = c.args.inst.now.costs.ok.0 in
    let t = c.requires.there in
    let there : c.args.test < p.tests = omega arith in
    let cost : c.from-cost.result ≡ p.cost c.args.test = c.from-cost.ensures ∙ get_or_read c.args.inst.now.costs.items c.args.test c.index.result.now there c.index.ensures 0 in
    let pass-is = pass-least c.args.inst.now c.args.group.now c.parts_of-parts.result.pass c.args.test c.requires.within there c.requires.splits c.parts_of-parts.ensures.pass c.args.self.now c.masses_of-masses.result.pass c.from-cost.result c.least_huffman-pass_huffman.result c.requires.of cost c.masses_of-masses.ensures.pass c.least_huffman-pass_huffman.ensures in
    pass-is.few

pub least_bound-fail_least-requires-clause-sums : goal.least_bound-fail_least-requires-clause-sums
least_bound-fail_least-requires-clause-sums c = each-small c.args.inst.now c.args.group.now c.args.self.now.sums c.requires.of.sums

pub least_bound-fail_least-requires-clause-some : goal.least_bound-fail_least-requires-clause-some
least_bound-fail_least-requires-clause-some c =
    let p = problem_of c.args.inst.now in
    let n = c.args.inst.now.costs.ok.0 in
    let t = c.requires.there in
    let there : c.args.test < p.tests = omega arith in
    let fail-mass-is = fail-mass c.args.inst.now c.args.group.now c.parts_of-parts.result.fail c.args.test c.requires.within there c.requires.splits c.parts_of-parts.ensures.fail c.masses_of-masses.result.fail c.masses_of-masses.ensures.fail in
    fail-mass-is.some

pub least_bound-fail_least-requires-clause-light : goal.least_bound-fail_least-requires-clause-light
least_bound-fail_least-requires-clause-light c =
    let p = problem_of c.args.inst.now in
    let n = c.args.inst.now.costs.ok.0 in
    let t = c.requires.there in
    let there : c.args.test < p.tests = omega arith in
    let fail-mass-is = fail-mass c.args.inst.now c.args.group.now c.parts_of-parts.result.fail c.args.test c.requires.within there c.requires.splits c.parts_of-parts.ensures.fail c.masses_of-masses.result.fail c.masses_of-masses.ensures.fail in
    fail-mass-is.light

pub least_bound-fail_least-requires-clause-few : goal.least_bound-fail_least-requires-clause-few
least_bound-fail_least-requires-clause-few c =
    let p = problem_of c.args.inst.now in
    let n = c.args.inst.now.costs.ok.0 in
    let t = c.requires.there in
    let there : c.args.test < p.tests = omega arith in
    let cost : c.from-cost.result ≡ p.cost c.args.test = c.from-cost.ensures ∙ get_or_read c.args.inst.now.costs.items c.args.test c.index.result.now there c.index.ensures 0 in
    let fail-is = fail-least c.args.inst.now c.args.group.now c.parts_of-parts.result.fail c.args.test c.requires.within there c.requires.splits c.parts_of-parts.ensures.fail c.args.self.now c.masses_of-masses.result.fail c.from-cost.result c.least_huffman-fail_huffman.result c.requires.of cost c.masses_of-masses.ensures.fail c.least_huffman-fail_huffman.ensures in
    fail-is.few

pub overflow_mul-result : goal.overflow_mul-result
overflow_mul-result c =
    let p = problem_of c.args.inst.now in
    let n = c.args.inst.now.costs.ok.0 in
    let t = c.requires.there in
    let there : c.args.test < p.tests = omega arith in
    let cost : c.from-cost.result ≡ p.cost c.args.test = c.from-cost.ensures ∙ get_or_read c.args.inst.now.costs.items c.args.test c.index.result.now there c.index.ensures 0 in
    let pass-is = pass-least c.args.inst.now c.args.group.now c.parts_of-parts.result.pass c.args.test c.requires.within there c.requires.splits c.parts_of-parts.ensures.pass c.args.self.now c.masses_of-masses.result.pass c.from-cost.result c.least_huffman-pass_huffman.result c.requires.of cost c.masses_of-masses.ensures.pass c.least_huffman-pass_huffman.ensures in
    let fail-is = fail-least c.args.inst.now c.args.group.now c.parts_of-parts.result.fail c.args.test c.requires.within there c.requires.splits c.parts_of-parts.ensures.fail c.args.self.now c.masses_of-masses.result.fail c.from-cost.result c.least_huffman-fail_huffman.result c.requires.of cost c.masses_of-masses.ensures.fail c.least_huffman-fail_huffman.ensures in
    let pass-value = c.least_bound-pass_least.ensures in
    let fail-value = c.least_bound-fail_least.ensures in
    let pass-low = pass-is.low in
    let fail-low = fail-is.low in
    let pass-small = pass-is.small in
    let fail-small = fail-is.small in
    let sum = least-sum c.args.inst.now c.args.group.now c.parts_of-parts.result.pass c.parts_of-parts.result.fail c.args.test c.from-cost.result c.args.self.now.mass.weight c.least_bound-pass_least.result c.least_bound-fail_least.result c.requires.within there cost c.requires.of.mass.weight c.parts_of-parts.ensures.pass c.parts_of-parts.ensures.fail (omega arith) (omega arith) in
    let product = sum.product in
    let low = sum.low in
    omega arith

pub overflow_add-result : goal.overflow_add-result
overflow_add-result c =
    let p = problem_of c.args.inst.now in
    let n = c.args.inst.now.costs.ok.0 in
    let t = c.requires.there in
    let there : c.args.test < p.tests = omega arith in
    let cost : c.from-cost.result ≡ p.cost c.args.test = c.from-cost.ensures ∙ get_or_read c.args.inst.now.costs.items c.args.test c.index.result.now there c.index.ensures 0 in
    let pass-is = pass-least c.args.inst.now c.args.group.now c.parts_of-parts.result.pass c.args.test c.requires.within there c.requires.splits c.parts_of-parts.ensures.pass c.args.self.now c.masses_of-masses.result.pass c.from-cost.result c.least_huffman-pass_huffman.result c.requires.of cost c.masses_of-masses.ensures.pass c.least_huffman-pass_huffman.ensures in
    let fail-is = fail-least c.args.inst.now c.args.group.now c.parts_of-parts.result.fail c.args.test c.requires.within there c.requires.splits c.parts_of-parts.ensures.fail c.args.self.now c.masses_of-masses.result.fail c.from-cost.result c.least_huffman-fail_huffman.result c.requires.of cost c.masses_of-masses.ensures.fail c.least_huffman-fail_huffman.ensures in
    let pass-value = c.least_bound-pass_least.ensures in
    let fail-value = c.least_bound-fail_least.ensures in
    let pass-low = pass-is.low in
    let fail-low = fail-is.low in
    let pass-small = pass-is.small in
    let fail-small = fail-is.small in
    let sum = least-sum c.args.inst.now c.args.group.now c.parts_of-parts.result.pass c.parts_of-parts.result.fail c.args.test c.from-cost.result c.args.self.now.mass.weight c.least_bound-pass_least.result c.least_bound-fail_least.result c.requires.within there cost c.requires.of.mass.weight c.parts_of-parts.ensures.pass c.parts_of-parts.ensures.fail (omega arith) (omega arith) in
    let product = sum.product in
    let low = sum.low in
    omega arith

pub overflow_add-result-2 : goal.overflow_add-result-2
overflow_add-result-2 c =
    let p = problem_of c.args.inst.now in
    let n = c.args.inst.now.costs.ok.0 in
    let t = c.requires.there in
    let there : c.args.test < p.tests = omega arith in
    let cost : c.from-cost.result ≡ p.cost c.args.test = c.from-cost.ensures ∙ get_or_read c.args.inst.now.costs.items c.args.test c.index.result.now there c.index.ensures 0 in
    let pass-is = pass-least c.args.inst.now c.args.group.now c.parts_of-parts.result.pass c.args.test c.requires.within there c.requires.splits c.parts_of-parts.ensures.pass c.args.self.now c.masses_of-masses.result.pass c.from-cost.result c.least_huffman-pass_huffman.result c.requires.of cost c.masses_of-masses.ensures.pass c.least_huffman-pass_huffman.ensures in
    let fail-is = fail-least c.args.inst.now c.args.group.now c.parts_of-parts.result.fail c.args.test c.requires.within there c.requires.splits c.parts_of-parts.ensures.fail c.args.self.now c.masses_of-masses.result.fail c.from-cost.result c.least_huffman-fail_huffman.result c.requires.of cost c.masses_of-masses.ensures.fail c.least_huffman-fail_huffman.ensures in
    let pass-value = c.least_bound-pass_least.ensures in
    let fail-value = c.least_bound-fail_least.ensures in
    let pass-low = pass-is.low in
    let fail-low = fail-is.low in
    let pass-small = pass-is.small in
    let fail-small = fail-is.small in
    let sum = least-sum c.args.inst.now c.args.group.now c.parts_of-parts.result.pass c.parts_of-parts.result.fail c.args.test c.from-cost.result c.args.self.now.mass.weight c.least_bound-pass_least.result c.least_bound-fail_least.result c.requires.within there cost c.requires.of.mass.weight c.parts_of-parts.ensures.pass c.parts_of-parts.ensures.fail (omega arith) (omega arith) in
    let product = sum.product in
    let low = sum.low in
    omega arith

pub returns : goal.returns
returns c =
    let p = problem_of c.args.inst.now in
    let n = c.args.inst.now.costs.ok.0 in
    let t = c.requires.there in
    let there : c.args.test < p.tests = omega arith in
    let cost : c.from-cost.result ≡ p.cost c.args.test = c.from-cost.ensures ∙ get_or_read c.args.inst.now.costs.items c.args.test c.index.result.now there c.index.ensures 0 in
    let pass-is = pass-least c.args.inst.now c.args.group.now c.parts_of-parts.result.pass c.args.test c.requires.within there c.requires.splits c.parts_of-parts.ensures.pass c.args.self.now c.masses_of-masses.result.pass c.from-cost.result c.least_huffman-pass_huffman.result c.requires.of cost c.masses_of-masses.ensures.pass c.least_huffman-pass_huffman.ensures in
    let fail-is = fail-least c.args.inst.now c.args.group.now c.parts_of-parts.result.fail c.args.test c.requires.within there c.requires.splits c.parts_of-parts.ensures.fail c.args.self.now c.masses_of-masses.result.fail c.from-cost.result c.least_huffman-fail_huffman.result c.requires.of cost c.masses_of-masses.ensures.fail c.least_huffman-fail_huffman.ensures in
    let pass-value = c.least_bound-pass_least.ensures in
    let fail-value = c.least_bound-fail_least.ensures in
    let pass-low = pass-is.low in
    let fail-low = fail-is.low in
    let pass-small = pass-is.small in
    let fail-small = fail-is.small in
    let sum = least-sum c.args.inst.now c.args.group.now c.parts_of-parts.result.pass c.parts_of-parts.result.fail c.args.test c.from-cost.result c.args.self.now.mass.weight c.least_bound-pass_least.result c.least_bound-fail_least.result c.requires.within there cost c.requires.of.mass.weight c.parts_of-parts.ensures.pass c.parts_of-parts.ensures.fail (omega arith) (omega arith) in
    let product = sum.product in
    let low = sum.low in
    omega arith

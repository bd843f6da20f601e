use Rattle.std.proofs.Common.{◌≡◌, ◌∙◌, ◌<◌, arith}
use Rattle.std.proofs.lemmas.List.{get_or_read}
use Rattle.seq_inst.specs.Instances.{problem_of}
use Rattle.seq_huff.proofs.BoundFits.{step-fits}
use Rattle.seq_huff.proofs.steps.step_sum.Goals as goal

pub bound-pass-requires : goal.bound-pass-requires
bound-pass-requires c = c.parts_of-parts.ensures.pass_within c.requires.within

pub bound-fail-requires : goal.bound-fail-requires
bound-fail-requires c = c.parts_of-parts.ensures.fail_within c.requires.within

pub overflow_mul-result : goal.overflow_mul-result
overflow_mul-result c =
    let p = problem_of c.args.inst.now in
    let n = c.args.inst.now.costs.ok.0 in
    let t = c.requires.there in
    let there : c.args.test < p.tests = omega arith in
    let cost : c.from.result ≡ p.cost c.args.test = c.from.ensures ∙ get_or_read c.args.inst.now.costs.items c.args.test c.index.result.now there c.index.ensures 0 in
    let f = step-fits c.args.inst.now c.args.group.now c.parts_of-parts.result.pass c.parts_of-parts.result.fail c.from.result c.args.weight c.bound-pass.result c.bound-fail.result c.args.test c.requires.within
    (c.parts_of-parts.ensures.pass_within c.requires.within)
    (c.parts_of-parts.ensures.fail_within c.requires.within)
    there cost c.requires.weight c.bound-pass.ensures.value c.bound-fail.ensures.value in
    let a = f.0 in
    let b = f.1 in
    let d = f.2 in
    omega arith

pub overflow_add-result : goal.overflow_add-result
overflow_add-result c =
    let p = problem_of c.args.inst.now in
    let n = c.args.inst.now.costs.ok.0 in
    let t = c.requires.there in
    let there : c.args.test < p.tests = omega arith in
    let cost : c.from.result ≡ p.cost c.args.test = c.from.ensures ∙ get_or_read c.args.inst.now.costs.items c.args.test c.index.result.now there c.index.ensures 0 in
    let f = step-fits c.args.inst.now c.args.group.now c.parts_of-parts.result.pass c.parts_of-parts.result.fail c.from.result c.args.weight c.bound-pass.result c.bound-fail.result c.args.test c.requires.within
    (c.parts_of-parts.ensures.pass_within c.requires.within)
    (c.parts_of-parts.ensures.fail_within c.requires.within)
    there cost c.requires.weight c.bound-pass.ensures.value c.bound-fail.ensures.value in
    let a = f.0 in
    let b = f.1 in
    let d = f.2 in
    omega arith

pub overflow_add-result-2 : goal.overflow_add-result-2
overflow_add-result-2 c =
    let p = problem_of c.args.inst.now in
    let n = c.args.inst.now.costs.ok.0 in
    let t = c.requires.there in
    let there : c.args.test < p.tests = omega arith in
    let cost : c.from.result ≡ p.cost c.args.test = c.from.ensures ∙ get_or_read c.args.inst.now.costs.items c.args.test c.index.result.now there c.index.ensures 0 in
    let f = step-fits c.args.inst.now c.args.group.now c.parts_of-parts.result.pass c.parts_of-parts.result.fail c.from.result c.args.weight c.bound-pass.result c.bound-fail.result c.args.test c.requires.within
    (c.parts_of-parts.ensures.pass_within c.requires.within)
    (c.parts_of-parts.ensures.fail_within c.requires.within)
    there cost c.requires.weight c.bound-pass.ensures.value c.bound-fail.ensures.value in
    let a = f.0 in
    let b = f.1 in
    let d = f.2 in
    omega arith

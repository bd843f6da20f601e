use Rattle.std.proofs.Common.{◌≡◌, ◌<◌, sym, ◌∙◌, arith}
use Rattle.std.proofs.lemmas.List.{get_or_read}
use Rattle.seq_inst.specs.Members.{members}
use Rattle.seq_inst.specs.Instances.{problem_of}
use Rattle.seq_theory.proofs.BelowLaws.{product-le}
use Rattle.seq_core.specs.Settled.{groups_in}
use Rattle.seq_finish.proofs.StratLaws.{value-small}
use Rattle.seq_finish.proofs.strategy.reaches.Goals as goal

pub overflow_mul-result : goal.overflow_mul-result
overflow_mul-result c =
    let p = problem_of c.args.inst.now in
    let n = c.args.inst.now.costs.ok.0 in
    let t = c.requires.there in
    let there : c.args.test < p.tests = omega arith in
    let cost : c.from.result ≡ p.cost c.args.test = c.from.ensures ∙ get_or_read c.args.inst.now.costs.items c.args.test c.index.result.now there c.index.ensures 0 in
    let most = (c.args.inst.now.valid.costs c.args.test there).1 in
    let l = c.args.inst.now.stands.light c.args.group.now c.requires.within in
    let w = c.requires.weight in
    let m = product-le c.from.result c.args.weight 1000000 4097000000 (omega arith) (omega arith) in
    omega arith

pub overflow_add-result : goal.overflow_add-result
overflow_add-result c =
    let p = problem_of c.args.inst.now in
    let xs = members c.args.group.now in
    let a = value-small c.args.inst.now (groups_in c.args.rows.now) c.parts_of-parts.result.pass c.in-Some-Some.pass (c.parts_of-parts.ensures.pass_within c.requires.within) (sym c.value_of.ensures ∙ c.in-Some-Some.is-0) in
    let b = value-small c.args.inst.now (groups_in c.args.rows.now) c.parts_of-parts.result.fail c.in-Some-Some.fail (c.parts_of-parts.ensures.fail_within c.requires.within) (sym c.value_of-2.ensures ∙ c.in-Some-Some.is-1) in
    omega arith

pub overflow_add-result-in-Some-Some : goal.overflow_add-result-in-Some-Some
overflow_add-result-in-Some-Some c =
    let p = problem_of c.args.inst.now in
    let xs = members c.args.group.now in
    let a = value-small c.args.inst.now (groups_in c.args.rows.now) c.parts_of-parts.result.pass c.in-Some-Some.pass (c.parts_of-parts.ensures.pass_within c.requires.within) (sym c.value_of.ensures ∙ c.in-Some-Some.is-0) in
    let b = value-small c.args.inst.now (groups_in c.args.rows.now) c.parts_of-parts.result.fail c.in-Some-Some.fail (c.parts_of-parts.ensures.fail_within c.requires.within) (sym c.value_of-2.ensures ∙ c.in-Some-Some.is-1) in
    let n = c.args.inst.now.costs.ok.0 in
    let t = c.requires.there in
    let there : c.args.test < p.tests = omega arith in
    let cost : c.from.result ≡ p.cost c.args.test = c.from.ensures ∙ get_or_read c.args.inst.now.costs.items c.args.test c.index.result.now there c.index.ensures 0 in
    let most = (c.args.inst.now.valid.costs c.args.test there).1 in
    let l = c.args.inst.now.stands.light c.args.group.now c.requires.within in
    let w = c.requires.weight in
    let m = product-le c.from.result c.args.weight 1000000 4097000000 (omega arith) (omega arith) in
    omega arith

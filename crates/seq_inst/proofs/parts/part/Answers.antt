use Rattle.std.proofs.Common.{◌≡◌, ◌∙◌, ap, arith}
use Rattle.std.specs.Prelude.{filter, not, slice_index_or}
use Rattle.std.proofs.lemmas.List.{get_or_read}
use Rattle.seq_inst.specs.declared.group.Group.{Group}
use Rattle.seq_inst.specs.Members.{has_class, members}
use Rattle.seq_inst.specs.Instances.{problem_of}
use Rattle.seq_inst.specs.Valid.{no_class}
use Rattle.seq_inst.proofs.PartsLaws.{pass-parts, fail-parts}
use Rattle.seq_inst.proofs.parts.part.Goals as goal

pub returns-in-Pass-clause-within : goal.returns-in-Pass-clause-within
returns-in-Pass-clause-within c =
    let inst = c.args.inst.now in
    let many = inst.valid.as_many in
    let long = inst.costs.ok.0 in
    let there = c.requires in
    let e : c.index.result.now ≡ slice_index_or inst.passes.items c.args.test no_class = get_or_read inst.passes.items c.args.test c.index.result.now (omega arith) c.index.ensures no_class in
    (pass-parts (problem_of inst) c.args.test (members c.args.group.now) (members c.common.result) (c.common.ensures ∙ ap (λ (g : Group). filter (has_class g) (members c.args.group.now)) e)).within

pub returns-in-Pass-clause-smaller : goal.returns-in-Pass-clause-smaller
returns-in-Pass-clause-smaller c =
    let inst = c.args.inst.now in
    let many = inst.valid.as_many in
    let long = inst.costs.ok.0 in
    let there = c.requires in
    let e : c.index.result.now ≡ slice_index_or inst.passes.items c.args.test no_class = get_or_read inst.passes.items c.args.test c.index.result.now (omega arith) c.index.ensures no_class in
    (pass-parts (problem_of inst) c.args.test (members c.args.group.now) (members c.common.result) (c.common.ensures ∙ ap (λ (g : Group). filter (has_class g) (members c.args.group.now)) e)).smaller

pub returns-in-Fail-clause-within : goal.returns-in-Fail-clause-within
returns-in-Fail-clause-within c =
    let inst = c.args.inst.now in
    let many = inst.valid.as_many in
    let long = inst.costs.ok.0 in
    let there = c.requires in
    let e : c.index.result.now ≡ slice_index_or inst.passes.items c.args.test no_class = get_or_read inst.passes.items c.args.test c.index.result.now (omega arith) c.index.ensures no_class in
    (fail-parts (problem_of inst) c.args.test (members c.args.group.now) (members c.without.result) (c.without.ensures ∙ ap (λ (g : Group). filter (λ k. not (has_class g k)) (members c.args.group.now)) e)).within

pub returns-in-Fail-clause-smaller : goal.returns-in-Fail-clause-smaller
returns-in-Fail-clause-smaller c =
    let inst = c.args.inst.now in
    let many = inst.valid.as_many in
    let long = inst.costs.ok.0 in
    let there = c.requires in
    let e : c.index.result.now ≡ slice_index_or inst.passes.items c.args.test no_class = get_or_read inst.passes.items c.args.test c.index.result.now (omega arith) c.index.ensures no_class in
    (fail-parts (problem_of inst) c.args.test (members c.args.group.now) (members c.without.result) (c.without.ensures ∙ ap (λ (g : Group). filter (λ k. not (has_class g k)) (members c.args.group.now)) e)).smaller

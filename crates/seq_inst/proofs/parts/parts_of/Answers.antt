use Rattle.std.proofs.Common.{◌≡◌, ◌∙◌, ap, arith}
use Rattle.std.specs.Prelude.{filter, not, slice_index_or}
use Rattle.std.proofs.lemmas.List.{get_or_read}
use Rattle.seq_inst.specs.declared.group.Group.{Group}
use Rattle.seq_inst.specs.Members.{has_class, members}
use Rattle.seq_inst.specs.Instances.{problem_of}
use Rattle.seq_inst.specs.Valid.{no_class}
use Rattle.seq_inst.proofs.PartsLaws.{pass-parts, fail-parts}
use Rattle.seq_inst.proofs.parts.parts_of.Goals as goal

pub returns : goal.returns
returns c =
    let inst = c.args.inst.now in
    let many = inst.valid.as_many in
    let long = inst.costs.ok.0 in
    let there = c.requires in
    let e : c.index-passes.result.now ≡ slice_index_or inst.passes.items c.args.test no_class = get_or_read inst.passes.items c.args.test c.index-passes.result.now (omega arith) c.index-passes.ensures no_class in
    let pass = pass-parts (problem_of inst) c.args.test (members c.args.group.now) (members c.common.result) (c.common.ensures ∙ ap (λ (g : Group). filter (has_class g) (members c.args.group.now)) e) in
    let fail = fail-parts (problem_of inst) c.args.test (members c.args.group.now) (members c.without.result) (c.without.ensures ∙ ap (λ (g : Group). filter (λ k. not (has_class g k)) (members c.args.group.now)) e) in
    record {
      pass = pass.classes;
      fail = fail.classes;
      pass_within = pass.within;
      fail_within = fail.within;
      pass_smaller = pass.smaller;
      fail_smaller = fail.smaller;
    }

use Rattle.std.proofs.Common.{◌≡◌, ◌∙◌, ap, sym, arith}
use Rattle.std.specs.Prelude.{not, ◌&&◌, true, false, slice_index_or}
use Rattle.std.specs.List.{list_any}
use Rattle.std.proofs.lemmas.List.{get_or_read}
use Rattle.seq_inst.specs.declared.group.Group.{Group}
use Rattle.seq_inst.specs.Members.{has_class, members}
use Rattle.seq_inst.specs.Valid.{no_class}
use Rattle.seq_inst.proofs.parts.splits.Goals as goal

pub returns-then-shares : goal.returns-then-shares
returns-then-shares c =
    let inst = c.args.inst.now in
    let many = inst.valid.as_many in
    let long = inst.costs.ok.0 in
    let there = c.requires in
    let e : c.index-passes.result.now ≡ slice_index_or inst.passes.items c.args.test no_class = get_or_read inst.passes.items c.args.test c.index-passes.result.now (omega arith) c.index-passes.ensures no_class in
    let some : list_any (has_class (slice_index_or inst.passes.items c.args.test no_class)) (members c.args.group.now) ≡ true = ap (λ (g : Group). list_any (has_class g) (members c.args.group.now)) (sym e) ∙ sym c.shares.ensures ∙ c.if-shares.true in
    c.lacks.ensures ∙ ap (λ (g : Group). list_any (λ k. not (has_class g k)) (members c.args.group.now)) e
    ∙ sym (ap (λ b. b && list_any (λ k. not (has_class (slice_index_or inst.passes.items c.args.test no_class) k)) (members c.args.group.now)) some)

pub returns-else-shares : goal.returns-else-shares
returns-else-shares c =
    let inst = c.args.inst.now in
    let many = inst.valid.as_many in
    let long = inst.costs.ok.0 in
    let there = c.requires in
    let e : c.index-passes.result.now ≡ slice_index_or inst.passes.items c.args.test no_class = get_or_read inst.passes.items c.args.test c.index-passes.result.now (omega arith) c.index-passes.ensures no_class in
    let none : list_any (has_class (slice_index_or inst.passes.items c.args.test no_class)) (members c.args.group.now) ≡ false = ap (λ (g : Group). list_any (has_class g) (members c.args.group.now)) (sym e) ∙ sym c.shares.ensures ∙ c.if-shares.false in
    c.if-shares.false ∙ sym (ap (λ b. b && list_any (λ k. not (has_class (slice_index_or inst.passes.items c.args.test no_class) k)) (members c.args.group.now)) none)

use Rattle.std.proofs.Common.{◌≡◌, ◌≤◌, ◌<◌, ◌∙◌, sym, ap, arith, subst, refl}
use Rattle.std.proofs.lemmas.List.{get_or_read}
use Rattle.seq_theory.specs.Tree.{Tree, AsksOnly, tree_cost}
use Rattle.seq_theory.proofs.CostLaws.{tree_cost-leaf}
use Rattle.seq_inst.specs.Members.{members}
use Rattle.seq_inst.specs.Instances.{problem_of}
use Rattle.seq_inst.specs.Shapes.{height}
use Rattle.seq_inst.specs.Trees.{tree_of}
use Rattle.seq_inst.specs.declared.strategy.Strategy.{Strategy}
use Rattle.seq_inst.proofs.WithinLaws.{light}
use Rattle.seq_inst.proofs.CostCode.{may_go_on, ask_sum}
use Rattle.seq_inst.proofs.costs.+cost_of.Goals as goal

pub cost_of-requires : goal.cost_of-requires
cost_of-requires t c =
    let p = problem_of c.args.inst.now in
    let m = may_go_on p c.in-Ask.test (tree_of c.in-Ask.pass.value) (tree_of c.in-Ask.fail.value) (tree_of c.args.strategy.now) (members c.args.group.now) (members c.parts_of-parts.result.pass) (members c.parts_of-parts.result.fail)
    (ap tree_of c.in-Ask.is) c.requires.there c.requires.short c.requires.within c.parts_of-parts.ensures.pass c.parts_of-parts.ensures.fail in
    let e = ap tree_of (sym c.deref.ensures) in
    let d = c.decreases in
    let lower : height (tree_of c.deref.result.now) < height (tree_of c.args.strategy.now) = subst (λ (x : Tree). height x < height (tree_of c.args.strategy.now)) e m.pass_lower in
    (omega arith, (subst (AsksOnly p.tests) e m.pass_there, (subst (λ (x : Tree). height x ≤ 512) e m.pass_short, m.pass_within)))

pub cost_of-requires-in-Ask : goal.cost_of-requires-in-Ask
cost_of-requires-in-Ask t c =
    let p = problem_of c.args.inst.now in
    let m = may_go_on p c.in-Ask.test (tree_of c.in-Ask.pass.value) (tree_of c.in-Ask.fail.value) (tree_of c.args.strategy.now) (members c.args.group.now) (members c.parts_of-parts.result.pass) (members c.parts_of-parts.result.fail)
    (ap tree_of c.in-Ask.is) c.requires.there c.requires.short c.requires.within c.parts_of-parts.ensures.pass c.parts_of-parts.ensures.fail in
    let e = ap tree_of (sym c.deref-in-Ask.ensures) in
    let d = c.decreases in
    let lower : height (tree_of c.deref-in-Ask.result.now) < height (tree_of c.args.strategy.now) = subst (λ (x : Tree). height x < height (tree_of c.args.strategy.now)) e m.fail_lower in
    (omega arith, (subst (AsksOnly p.tests) e m.fail_there, (subst (λ (x : Tree). height x ≤ 512) e m.fail_short, m.fail_within)))

pub returns-in-Leaf : goal.returns-in-Leaf
returns-in-Leaf t c = sym (ap (λ s. tree_cost (problem_of c.args.inst.now) (tree_of s) (members c.args.group.now)) c.in-Leaf.is ∙ tree_cost-leaf (problem_of c.args.inst.now) (members c.args.group.now))

pub overflow_mul-first : goal.overflow_mul-first
overflow_mul-first t c =
    let p = problem_of c.args.inst.now in
    let m = may_go_on p c.in-Ask.test (tree_of c.in-Ask.pass.value) (tree_of c.in-Ask.fail.value) (tree_of c.args.strategy.now) (members c.args.group.now) (members c.parts_of-parts.result.pass) (members c.parts_of-parts.result.fail)
    (ap tree_of c.in-Ask.is) c.requires.there c.requires.short c.requires.within c.parts_of-parts.ensures.pass c.parts_of-parts.ensures.fail in
    let cost : c.from.result ≡ p.cost c.in-Ask.test = c.from.ensures ∙ get_or_read c.args.inst.now.costs.items c.in-Ask.test c.index.result.now m.there c.index.ensures 0 in
    let s = ask_sum p c.in-Ask.test (tree_of c.in-Ask.pass.value) (tree_of c.in-Ask.fail.value) (tree_of c.args.strategy.now) (members c.args.group.now) (members c.parts_of-parts.result.pass) (members c.parts_of-parts.result.fail) c.from.result c.weight_of.result _ _
    (ap tree_of c.in-Ask.is) c.requires.there c.requires.short (λ u lt. (c.args.inst.now.valid.costs u lt).1) (light c.args.inst.now c.args.group.now c.requires.within) c.parts_of-parts.ensures.pass c.parts_of-parts.ensures.fail cost c.weight_of.ensures refl refl in
    let f = s.first_fits in
    omega arith

pub overflow_add-result : goal.overflow_add-result
overflow_add-result t c =
    let p = problem_of c.args.inst.now in
    let m = may_go_on p c.in-Ask.test (tree_of c.in-Ask.pass.value) (tree_of c.in-Ask.fail.value) (tree_of c.args.strategy.now) (members c.args.group.now) (members c.parts_of-parts.result.pass) (members c.parts_of-parts.result.fail)
    (ap tree_of c.in-Ask.is) c.requires.there c.requires.short c.requires.within c.parts_of-parts.ensures.pass c.parts_of-parts.ensures.fail in
    let cost : c.from.result ≡ p.cost c.in-Ask.test = c.from.ensures ∙ get_or_read c.args.inst.now.costs.items c.in-Ask.test c.index.result.now m.there c.index.ensures 0 in
    let s = ask_sum p c.in-Ask.test (tree_of c.in-Ask.pass.value) (tree_of c.in-Ask.fail.value) (tree_of c.args.strategy.now) (members c.args.group.now) (members c.parts_of-parts.result.pass) (members c.parts_of-parts.result.fail) c.from.result c.weight_of.result c.cost_of.result c.cost_of-in-Ask.result
    (ap tree_of c.in-Ask.is) c.requires.there c.requires.short (λ u lt. (c.args.inst.now.valid.costs u lt).1) (light c.args.inst.now c.args.group.now c.requires.within) c.parts_of-parts.ensures.pass c.parts_of-parts.ensures.fail cost c.weight_of.ensures
    (c.cost_of.ensures ∙ ap (λ (x : Strategy). tree_cost p (tree_of x) (members c.parts_of-parts.result.pass)) c.deref.ensures) (c.cost_of-in-Ask.ensures ∙ ap (λ (x : Strategy). tree_cost p (tree_of x) (members c.parts_of-parts.result.fail)) c.deref-in-Ask.ensures) in
    let f = s.fits in
    omega arith

pub overflow_add-result-in-Ask : goal.overflow_add-result-in-Ask
overflow_add-result-in-Ask t c =
    let p = problem_of c.args.inst.now in
    let m = may_go_on p c.in-Ask.test (tree_of c.in-Ask.pass.value) (tree_of c.in-Ask.fail.value) (tree_of c.args.strategy.now) (members c.args.group.now) (members c.parts_of-parts.result.pass) (members c.parts_of-parts.result.fail)
    (ap tree_of c.in-Ask.is) c.requires.there c.requires.short c.requires.within c.parts_of-parts.ensures.pass c.parts_of-parts.ensures.fail in
    let cost : c.from.result ≡ p.cost c.in-Ask.test = c.from.ensures ∙ get_or_read c.args.inst.now.costs.items c.in-Ask.test c.index.result.now m.there c.index.ensures 0 in
    let s = ask_sum p c.in-Ask.test (tree_of c.in-Ask.pass.value) (tree_of c.in-Ask.fail.value) (tree_of c.args.strategy.now) (members c.args.group.now) (members c.parts_of-parts.result.pass) (members c.parts_of-parts.result.fail) c.from.result c.weight_of.result c.cost_of.result c.cost_of-in-Ask.result
    (ap tree_of c.in-Ask.is) c.requires.there c.requires.short (λ u lt. (c.args.inst.now.valid.costs u lt).1) (light c.args.inst.now c.args.group.now c.requires.within) c.parts_of-parts.ensures.pass c.parts_of-parts.ensures.fail cost c.weight_of.ensures
    (c.cost_of.ensures ∙ ap (λ (x : Strategy). tree_cost p (tree_of x) (members c.parts_of-parts.result.pass)) c.deref.ensures) (c.cost_of-in-Ask.ensures ∙ ap (λ (x : Strategy). tree_cost p (tree_of x) (members c.parts_of-parts.result.fail)) c.deref-in-Ask.ensures) in
    let f = s.fits in
    omega arith

pub returns-in-Ask : goal.returns-in-Ask
returns-in-Ask t c =
    let p = problem_of c.args.inst.now in
    let m = may_go_on p c.in-Ask.test (tree_of c.in-Ask.pass.value) (tree_of c.in-Ask.fail.value) (tree_of c.args.strategy.now) (members c.args.group.now) (members c.parts_of-parts.result.pass) (members c.parts_of-parts.result.fail)
    (ap tree_of c.in-Ask.is) c.requires.there c.requires.short c.requires.within c.parts_of-parts.ensures.pass c.parts_of-parts.ensures.fail in
    let cost : c.from.result ≡ p.cost c.in-Ask.test = c.from.ensures ∙ get_or_read c.args.inst.now.costs.items c.in-Ask.test c.index.result.now m.there c.index.ensures 0 in
    (ask_sum p c.in-Ask.test (tree_of c.in-Ask.pass.value) (tree_of c.in-Ask.fail.value) (tree_of c.args.strategy.now) (members c.args.group.now) (members c.parts_of-parts.result.pass) (members c.parts_of-parts.result.fail) c.from.result c.weight_of.result c.cost_of.result c.cost_of-in-Ask.result
    (ap tree_of c.in-Ask.is) c.requires.there c.requires.short (λ u lt. (c.args.inst.now.valid.costs u lt).1) (light c.args.inst.now c.args.group.now c.requires.within) c.parts_of-parts.ensures.pass c.parts_of-parts.ensures.fail cost c.weight_of.ensures
    (c.cost_of.ensures ∙ ap (λ (x : Strategy). tree_cost p (tree_of x) (members c.parts_of-parts.result.pass)) c.deref.ensures) (c.cost_of-in-Ask.ensures ∙ ap (λ (x : Strategy). tree_cost p (tree_of x) (members c.parts_of-parts.result.fail)) c.deref-in-Ask.ensures)).is

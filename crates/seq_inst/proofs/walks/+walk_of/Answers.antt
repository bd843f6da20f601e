use Rattle.std.proofs.Common.{◌≡◌, ◌<◌, ◌^◌, ◌∙◌, sym, ap, arith, subst, length}
use Rattle.std.proofs.lemmas.List.{get_or_read}
use Rattle.seq_theory.specs.Tree.{asked, costs_of}
use Rattle.seq_inst.specs.Instances.{problem_of}
use Rattle.seq_inst.specs.Shapes.{leaf_count, leaf_of}
use Rattle.seq_inst.specs.Trees.{tree_of}
use Rattle.seq_inst.specs.declared.strategy.Strategy.{Strategy}
use Rattle.seq_inst.specs.declared.walks.Walk.{Walk}
use Rattle.seq_inst.proofs.WalkCode.{walk_fits}
use Rattle.seq_inst.proofs.walks.+walk_of.Goals as goal
use Rattle.seq_inst.proofs.walks.+walk_of.Goals.{then-passed, else-passed}

pub leaves_in-requires : goal.leaves_in-requires
leaves_in-requires t c =
    let w = walk_fits (problem_of c.args.inst.now) c.in-Ask.test (tree_of c.in-Ask.pass.value) (tree_of c.in-Ask.fail.value) (tree_of c.args.strategy.now) c.args.class (ap tree_of c.in-Ask.is) c.requires.there c.requires.short c.requires.few (λ u lt. (c.args.inst.now.valid.costs u lt).1) in
    subst (λ (s : Strategy). leaf_count (tree_of s) < 2 ^ 32) (sym c.deref-else-passed-2.ensures) w.over_fits

pub overflow_add-rest : goal.overflow_add-rest
overflow_add-rest t c =
    let p = problem_of c.args.inst.now in
    let w = walk_fits p c.in-Ask.test (tree_of c.in-Ask.pass.value) (tree_of c.in-Ask.fail.value) (tree_of c.args.strategy.now) c.args.class (ap tree_of c.in-Ask.is) c.requires.there c.requires.short c.requires.few (λ u lt. (c.args.inst.now.valid.costs u lt).1) in
    let over = c.leaves_in.ensures ∙ ap (λ (s : Strategy). leaf_count (tree_of s)) c.deref-else-passed-2.ensures in
    let leaf = c.walk_of-rest-else-passed.ensures.leaf ∙ ap (λ (s : Strategy). leaf_of p (tree_of s) c.args.class) c.deref-else-passed.ensures in
    let f = w.leaf_fits in
    omega arith

pub overflow_add-result : goal.overflow_add-result
overflow_add-result t c =
    let p = problem_of c.args.inst.now in
    let w = walk_fits p c.in-Ask.test (tree_of c.in-Ask.pass.value) (tree_of c.in-Ask.fail.value) (tree_of c.args.strategy.now) c.args.class (ap tree_of c.in-Ask.is) c.requires.there c.requires.short c.requires.few (λ u lt. (c.args.inst.now.valid.costs u lt).1) in
    let fp = w.pass_tests in
    let ff = w.fail_tests in
    elim c.if-passed.branch [
      | then-passed v ↦
          (let tests = v.walk_of-rest.ensures.tests ∙ ap (λ (s : Strategy). length (asked p (tree_of s) c.args.class)) v.deref.ensures in
          let is = ap (λ (r : Walk). r.tests) v.rest-is in
          omega arith)
      | else-passed v ↦
          (let tests = v.walk_of-rest-else-passed.ensures.tests ∙ ap (λ (s : Strategy). length (asked p (tree_of s) c.args.class)) v.deref-else-passed.ensures in
          let is = ap (λ (r : Walk). r.tests) v.rest-is in
          omega arith)
    ]

pub overflow_add-result-in-Ask : goal.overflow_add-result-in-Ask
overflow_add-result-in-Ask t c =
    let p = problem_of c.args.inst.now in
    let w = walk_fits p c.in-Ask.test (tree_of c.in-Ask.pass.value) (tree_of c.in-Ask.fail.value) (tree_of c.args.strategy.now) c.args.class (ap tree_of c.in-Ask.is) c.requires.there c.requires.short c.requires.few (λ u lt. (c.args.inst.now.valid.costs u lt).1) in
    let first : c.from.result ≡ p.cost c.in-Ask.test = c.from.ensures ∙ get_or_read c.args.inst.now.costs.items c.in-Ask.test c.index-in-Ask.result.now w.there c.index-in-Ask.ensures 0 in
    let f1 = w.first_cost in
    let fp = w.pass_cost in
    let ff = w.fail_cost in
    elim c.if-passed.branch [
      | then-passed v ↦
          (let cost = v.walk_of-rest.ensures.cost ∙ ap (λ (s : Strategy). costs_of p (asked p (tree_of s) c.args.class)) v.deref.ensures in
          let is = ap (λ (r : Walk). r.cost) v.rest-is in
          omega arith)
      | else-passed v ↦
          (let cost = v.walk_of-rest-else-passed.ensures.cost ∙ ap (λ (s : Strategy). costs_of p (asked p (tree_of s) c.args.class)) v.deref-else-passed.ensures in
          let is = ap (λ (r : Walk). r.cost) v.rest-is in
          omega arith)
    ]

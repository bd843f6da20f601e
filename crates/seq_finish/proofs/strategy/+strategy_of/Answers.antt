use Rattle.std.proofs.Common.{◌∙◌, sym, ap, arith, subst, length}
use Rattle.std.specs.Prelude.{is_some}
use Rattle.seq_theory.specs.Problem.{IsWithin, pass_part}
use Rattle.seq_theory.specs.Tree.{ask}
use Rattle.seq_theory.specs.Graph.{val, strat}
use Rattle.seq_inst.specs.Members.{members}
use Rattle.seq_inst.specs.Instances.{problem_of}
use Rattle.seq_inst.specs.Trees.{tree_of}
use Rattle.seq_core.specs.Settled.{groups_in}
use Rattle.seq_finish.proofs.StratLaws.{strat-end, strat-greedy, strat-ask, made-same, code_parts}
use Rattle.seq_finish.proofs.strategy.+strategy_of.Goals as goal

pub returns-then-is_leaf-clause-strategy : goal.returns-then-is_leaf-clause-strategy
returns-then-is_leaf-clause-strategy t c = sym (strat-end (problem_of c.args.inst.now) (groups_in c.args.rows.now) (members c.args.group.now) c.requires.within (sym c.is_leaf.ensures ∙ c.if-is_leaf.true))

pub returns-then-greedy_of-value-clause-strategy : goal.returns-then-greedy_of-value-clause-strategy
returns-then-greedy_of-value-clause-strategy t c =
    made-same c.greedy_tree.result _ _ c.greedy_tree.ensures.value
    (sym (strat-greedy (problem_of c.args.inst.now) (groups_in c.args.rows.now) (members c.args.group.now) c.in-Some.value c.requires.within (sym c.is_leaf.ensures ∙ c.if-is_leaf.false) (sym c.value_of.ensures ∙ c.in-Some.is)
    (sym c.greedy_of.ensures.value ∙ c.if-greedy_of-value.true)))

pub parts_of-parts-requires : goal.parts_of-parts-requires
parts_of-parts-requires t c =
    let h = code_parts c.args.inst.now (groups_in c.args.rows.now) c.args.group.now c.in-Some.value c.value_test-test.result c.greedy_of.result c.requires.within (sym c.is_leaf.ensures ∙ c.if-is_leaf.false) (sym c.value_of.ensures ∙ c.in-Some.is) c.greedy_of.ensures.value c.if-greedy_of-value.false c.value_test-test.ensures in
    let there = h.there in
    let n = c.args.inst.now.costs.ok.0 in
    omega arith

pub strategy_of-requires : goal.strategy_of-requires
strategy_of-requires t c =
    let h = code_parts c.args.inst.now (groups_in c.args.rows.now) c.args.group.now c.in-Some.value c.value_test-test.result c.greedy_of.result c.requires.within (sym c.is_leaf.ensures ∙ c.if-is_leaf.false) (sym c.value_of.ensures ∙ c.in-Some.is) c.greedy_of.ensures.value c.if-greedy_of-value.false c.value_test-test.ensures in
    let d = c.decreases in
    let smaller = h.pass_smaller in
    let same = ap length c.parts_of-parts.ensures.pass in
    (omega arith, (c.greedy_of.ensures.numbers, (c.requires.placed, (c.requires.settled, (subst (IsWithin (problem_of c.args.inst.now)) (sym c.parts_of-parts.ensures.pass) h.pass.within, ap is_some (ap (val (problem_of c.args.inst.now) (groups_in c.args.rows.now)) c.parts_of-parts.ensures.pass ∙ h.pass.value_is))))))

pub strategy_of-requires-2 : goal.strategy_of-requires-2
strategy_of-requires-2 t c =
    let h = code_parts c.args.inst.now (groups_in c.args.rows.now) c.args.group.now c.in-Some.value c.value_test-test.result c.greedy_of.result c.requires.within (sym c.is_leaf.ensures ∙ c.if-is_leaf.false) (sym c.value_of.ensures ∙ c.in-Some.is) c.greedy_of.ensures.value c.if-greedy_of-value.false c.value_test-test.ensures in
    let d = c.decreases in
    let smaller = h.fail_smaller in
    let same = ap length c.parts_of-parts.ensures.fail in
    (omega arith, (c.strategy_of.ensures.numbers, (c.requires.placed, (c.requires.settled, (subst (IsWithin (problem_of c.args.inst.now)) (sym c.parts_of-parts.ensures.fail) h.fail.within, ap is_some (ap (val (problem_of c.args.inst.now) (groups_in c.args.rows.now)) c.parts_of-parts.ensures.fail ∙ h.fail.value_is))))))

pub returns-clause-strategy : goal.returns-clause-strategy
returns-clause-strategy t c =
    let p = problem_of c.args.inst.now in
    let entered = groups_in c.args.rows.now in
    let xs = members c.args.group.now in
    made-same c.ask_first.result _ _ c.ask_first.ensures
    (ap (λ x. ask c.value_test-test.result x (tree_of c.in_ok-fail.fail)) (c.in_ok-pass.ensures.strategy ∙ ap (strat p entered) c.parts_of-parts.ensures.pass)
    ∙ ap (λ x. ask c.value_test-test.result (strat p entered (pass_part p c.value_test-test.result xs)) x) (c.in_ok-fail.ensures.strategy ∙ ap (strat p entered) c.parts_of-parts.ensures.fail)
    ∙ sym (strat-ask p entered xs c.in-Some.value c.value_test-test.result c.requires.within (sym c.is_leaf.ensures ∙ c.if-is_leaf.false) (sym c.value_of.ensures ∙ c.in-Some.is) (λ h. c.if-greedy_of-value.false (c.greedy_of.ensures.value ∙ h)) c.value_test-test.ensures))

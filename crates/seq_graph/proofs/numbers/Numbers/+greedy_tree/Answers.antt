use Rattle.std.proofs.Common.{◌≡◌, ◌∙◌, sym, ap, arith, refl, subst}
use Rattle.std.specs.Prelude.{IfOk}
use Rattle.seq_theory.specs.Problem.{fail_part}
use Rattle.seq_theory.specs.Tree.{ask}
use Rattle.seq_theory.specs.Greedy.{greedy}
use Rattle.seq_theory.proofs.GreedyLaws.{greedy-end}
use Rattle.seq_inst.specs.Members.{members}
use Rattle.seq_inst.specs.Instances.{problem_of}
use Rattle.seq_inst.specs.Trees.{tree_of}
use Rattle.seq_theory.proofs.GreedyParts.{greedy_there, greedy_parts}
use Rattle.seq_graph.proofs.GreedyChoiceLaws.{number_room-both}
use Rattle.seq_graph.proofs.numbers.Numbers.+greedy_tree.Goals as goal

pub returns-then-is_leaf-clause-value : goal.returns-then-is_leaf-clause-value
returns-then-is_leaf-clause-value t c = sym (greedy-end (problem_of c.args.inst.now) (members c.args.group.now) c.args.inst.now.valid.told c.requires.within (sym c.is_leaf.ensures ∙ c.if-is_leaf.true))

pub parts_of-parts-requires : goal.parts_of-parts-requires
parts_of-parts-requires t c =
    let l = greedy_there (problem_of c.args.inst.now) (members c.args.group.now) c.greedy_choice-test.result c.args.inst.now.valid.told c.requires.within (sym c.is_leaf.ensures ∙ c.if-is_leaf.false) c.greedy_choice-test.ensures.test in
    let n = c.args.inst.now.costs.ok.0 in
    omega arith

pub greedy_tree-requires : goal.greedy_tree-requires
greedy_tree-requires t c =
    let p = problem_of c.args.inst.now in
    let xs = members c.args.group.now in
    let e = sym c.is_leaf.ensures ∙ c.if-is_leaf.false in
    let g = greedy_parts p xs (members c.parts_of-parts.result.pass) (fail_part p c.greedy_choice-test.result xs) c.greedy_choice-test.result c.args.inst.now.valid.told c.requires.within e c.greedy_choice-test.ensures.test c.parts_of-parts.ensures.pass refl in
    let d = c.decreases in
    let s = g.pass_smaller in
    (omega arith, (c.greedy_choice-test.ensures.numbers, g.pass_within))

pub greedy_tree-requires-2 : goal.greedy_tree-requires-2
greedy_tree-requires-2 t c =
    let p = problem_of c.args.inst.now in
    let xs = members c.args.group.now in
    let e = sym c.is_leaf.ensures ∙ c.if-is_leaf.false in
    let g = greedy_parts p xs (members c.parts_of-parts.result.pass) (members c.parts_of-parts.result.fail) c.greedy_choice-test.result c.args.inst.now.valid.told c.requires.within e c.greedy_choice-test.ensures.test c.parts_of-parts.ensures.pass c.parts_of-parts.ensures.fail in
    let d = c.decreases in
    let s = g.fail_smaller in
    (omega arith, (c.greedy_tree.ensures.numbers, g.fail_within))

pub returns-clause-keeps : goal.returns-clause-keeps
returns-clause-keeps t c g n e = c.greedy_tree-2.ensures.keeps g n (c.greedy_tree.ensures.keeps g n (c.greedy_choice-test.ensures.keeps g n e))

pub returns-clause-room : goal.returns-clause-room
returns-clause-room t c = number_room-both _ _ _ (number_room-both _ _ _ c.greedy_choice-test.ensures.room c.greedy_tree.ensures.room) c.greedy_tree-2.ensures.room

pub returns-clause-value : goal.returns-clause-value
returns-clause-value t c =
    let p = problem_of c.args.inst.now in
    let xs = members c.args.group.now in
    let e = sym c.is_leaf.ensures ∙ c.if-is_leaf.false in
    let g = greedy_parts p xs (members c.parts_of-parts.result.pass) (members c.parts_of-parts.result.fail) c.greedy_choice-test.result c.args.inst.now.valid.told c.requires.within e c.greedy_choice-test.ensures.test c.parts_of-parts.ensures.pass c.parts_of-parts.ensures.fail in
    subst (λ x. IfOk c.ask_first.result (λ s. tree_of s ≡ x))
    (ap (λ x. ask c.greedy_choice-test.result x (tree_of c.in_ok-fail.fail)) c.in_ok-pass.ensures.value
    ∙ ap (λ x. ask c.greedy_choice-test.result (greedy p (members c.parts_of-parts.result.pass)) x) c.in_ok-fail.ensures.value ∙ sym g.tree) c.ask_first.ensures

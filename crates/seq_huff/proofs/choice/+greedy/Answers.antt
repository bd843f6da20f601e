use Rattle.std.proofs.Common.{◌∙◌, sym, ap, arith, refl}
use Rattle.seq_theory.specs.Problem.{fail_part}
use Rattle.seq_theory.specs.Tree.{leaf, ask}
use Rattle.seq_theory.specs.Greedy.{greedy}
use Rattle.seq_inst.specs.Members.{members}
use Rattle.seq_inst.specs.Instances.{problem_of}
use Rattle.seq_inst.specs.Trees.{tree_of}
use Rattle.seq_huff.proofs.GreedyCode.{greedy_there, greedy_parts, greedy-leaf, greedy-asks}
use Rattle.seq_huff.proofs.GreedyShape.{greedy-holds, greedy-made}
use Rattle.seq_huff.proofs.choice.+greedy.Goals as goal

pub returns-then-is_leaf : goal.returns-then-is_leaf
returns-then-is_leaf t c = greedy-holds c.args.inst.now c.args.group.now leaf c.requires (sym (greedy-leaf c.recursions_hold.ensures (problem_of c.args.inst.now) (members c.args.group.now) c.args.inst.now.valid.told c.requires (sym c.is_leaf.ensures ∙ c.if-is_leaf.true)))

pub parts_of-parts-requires : goal.parts_of-parts-requires
parts_of-parts-requires t c =
    let l = greedy_there (problem_of c.args.inst.now) (members c.args.group.now) c.greedy_choice-test.result c.args.inst.now.valid.told c.requires (sym c.is_leaf.ensures ∙ c.if-is_leaf.false) c.greedy_choice-test.ensures in
    let n = c.args.inst.now.passes.ok.0 in
    let m = c.args.inst.now.valid.as_many in
    omega arith

pub greedy-requires : goal.greedy-requires
greedy-requires t c =
    let p = problem_of c.args.inst.now in
    let xs = members c.args.group.now in
    let e = sym c.is_leaf.ensures ∙ c.if-is_leaf.false in
    let g = greedy_parts p xs (members c.parts_of-parts.result.pass) (fail_part p c.greedy_choice-test.result xs) c.greedy_choice-test.result c.args.inst.now.valid.told c.requires e c.greedy_choice-test.ensures c.parts_of-parts.ensures.pass refl in
    let d = c.decreases in
    let s = g.pass_smaller in
    (omega arith, (g.pass_within))

pub greedy-requires-2 : goal.greedy-requires-2
greedy-requires-2 t c =
    let p = problem_of c.args.inst.now in
    let xs = members c.args.group.now in
    let e = sym c.is_leaf.ensures ∙ c.if-is_leaf.false in
    let g = greedy_parts p xs (members c.parts_of-parts.result.pass) (members c.parts_of-parts.result.fail) c.greedy_choice-test.result c.args.inst.now.valid.told c.requires e c.greedy_choice-test.ensures c.parts_of-parts.ensures.pass c.parts_of-parts.ensures.fail in
    let d = c.decreases in
    let s = g.fail_smaller in
    (omega arith, (g.fail_within))

pub returns : goal.returns
returns t c =
    let p = problem_of c.args.inst.now in
    let xs = members c.args.group.now in
    let e = sym c.is_leaf.ensures ∙ c.if-is_leaf.false in
    let tree = greedy-asks c.recursions_hold.ensures p xs (members c.parts_of-parts.result.pass) (members c.parts_of-parts.result.fail) c.greedy_choice-test.result c.args.inst.now.valid.told c.requires e c.greedy_choice-test.ensures c.parts_of-parts.ensures.pass c.parts_of-parts.ensures.fail in
    greedy-made c.args.inst.now c.args.group.now (ask c.greedy_choice-test.result (tree_of c.in_ok-pass.pass) (tree_of c.in_ok-fail.fail)) c.ask_first.result c.requires
    (ap (λ x. ask c.greedy_choice-test.result x (tree_of c.in_ok-fail.fail)) c.in_ok-pass.ensures.value
    ∙ ap (λ x. ask c.greedy_choice-test.result (greedy p (members c.parts_of-parts.result.pass)) x) c.in_ok-fail.ensures.value ∙ sym tree) c.ask_first.ensures

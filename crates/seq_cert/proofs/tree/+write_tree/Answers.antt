use Rattle.std.proofs.Common.{◌≡◌, ◌<◌, ◌∷◌, map, sym, ap, subst, ◌∙◌, arith}
use Rattle.std.proofs.lemmas.List.Sums.{fold-append}
use Rattle.seq_theory.specs.Tree.{Tree, ask, AsksOnly}
use Rattle.sig_lines.specs.Written.{with_line, with_lines}
use Rattle.seq_inst.specs.Instances.{problem_of}
use Rattle.seq_inst.specs.Members.{members}
use Rattle.seq_inst.specs.Shapes.{height}
use Rattle.seq_inst.specs.Trees.{tree_of}
use Rattle.seq_cert.specs.declared.report.TreeLine.TheVariants.{Ask}
use Rattle.seq_cert.specs.Text.{tree_words}
use Rattle.seq_cert.specs.TreeLines.{tree_lines}
use Rattle.seq_cert.proofs.TreeText.{asks_only, ask_lines}
use Rattle.seq_cert.proofs.tree.+write_tree.Goals as goal

pub write_tree-requires : goal.write_tree-requires
write_tree-requires t c =
    let p = problem_of c.args.inst.now in
    let a = asks_only p.tests c.in-Ask.test (tree_of c.in-Ask.pass.value) (tree_of c.in-Ask.fail.value) (tree_of c.args.strategy.now) (ap tree_of c.in-Ask.is) c.requires in
    let e = ap tree_of (sym c.deref.ensures) in
    let d = c.decreases in
    let lower : height (tree_of c.deref.result.now) < height (tree_of c.args.strategy.now) = subst (λ (x : Tree). height x < height (tree_of c.args.strategy.now)) e a.pass_lower in
    (omega arith, subst (AsksOnly p.tests) e a.pass_there)

pub write_tree-requires-in-Ask : goal.write_tree-requires-in-Ask
write_tree-requires-in-Ask t c =
    let p = problem_of c.args.inst.now in
    let a = asks_only p.tests c.in-Ask.test (tree_of c.in-Ask.pass.value) (tree_of c.in-Ask.fail.value) (tree_of c.args.strategy.now) (ap tree_of c.in-Ask.is) c.requires in
    let e = ap tree_of (sym c.deref-in-Ask.ensures) in
    let d = c.decreases in
    let lower : height (tree_of c.deref-in-Ask.result.now) < height (tree_of c.args.strategy.now) = subst (λ (x : Tree). height x < height (tree_of c.args.strategy.now)) e a.fail_lower in
    (omega arith, subst (AsksOnly p.tests) e a.fail_there)

pub returns-in_ok-write_tree-in-Ask-2 : goal.returns-in_ok-write_tree-in-Ask-2
returns-in_ok-write_tree-in-Ask-2 t c =
    let p = problem_of c.args.inst.now in
    let pass = tree_of c.deref.result.now in
    let fail = tree_of c.deref-in-Ask.result.now in
    let is : tree_of c.args.strategy.now ≡ ask c.in-Ask.test pass fail =
    ap tree_of c.in-Ask.is ∙ ap (λ (x : Tree). ask c.in-Ask.test x (tree_of c.in-Ask.fail.value)) (ap tree_of (sym c.deref.ensures)) ∙ ap (λ (x : Tree). ask c.in-Ask.test pass x) (ap tree_of (sym c.deref-in-Ask.ensures)) in
    let out = c.args.out.now in
    let first = tree_words (Ask c.in-Ask.test) in
    let passing = map tree_words (tree_lines p pass (members c.parts_of-parts.result.pass)) in
    let failing = map tree_words (tree_lines p fail (members c.parts_of-parts.result.fail)) in
    c.in_ok-write_tree-in-Ask-2.ensures ∙ ap (λ w. with_lines w failing) (c.in_ok-write_tree-in-Ask.ensures ∙ ap (λ w. with_lines w passing) c.in_ok-write_ask-in-Ask.ensures)
    ∙ sym (fold-append with_line out (first ∷ passing) failing)
    ∙ ap (with_lines out) (ask_lines p c.in-Ask.test pass fail (tree_of c.args.strategy.now) (members c.args.group.now) (members c.parts_of-parts.result.pass) (members c.parts_of-parts.result.fail) is c.parts_of-parts.ensures.pass c.parts_of-parts.ensures.fail)

use Rattle.std.proofs.Common.{◌≡◌, ◌+◌, ◌++◌, ◌∷◌, [], List, ℕ, length, Some, ap, sym, ◌∙◌, arith}
use Rattle.std.proofs.lemmas.List.{nil_from_length}
use Rattle.seq_inst.specs.Instances.{problem_of}
use Rattle.seq_inst.specs.declared.group.Group.{Group}
use Rattle.seq_cert.specs.declared.fault.BadCode.TheVariants.{C03}
use Rattle.seq_cert.specs.declared.report.TreeLine.TheVariants.{Leaf}
use Rattle.seq_check.proofs.TreeWalk.{walk_starts, walk_is_over, walk_breaks, top_within, walk_goes_on, walk_ends, walk_is_short}
use Rattle.seq_check.proofs.tree.walk.Goals as goal

pub loop-at-init : goal.loop-at-init
loop-at-init c =
    let is : c.push.new.self.items ≡ c.root.result ∷ [] = c.in_ok-push.ensures.items ∙ ap (λ (l : List Group). l ++ c.root.result ∷ []) c.new-stack.ensures.items in
    walk_starts (problem_of c.args.inst.now) c.args.line c.args.tree.now c.push.new.self.items c.root.result is c.root.ensures.classes

pub returns-in-None : goal.returns-in-None
returns-in-None c =
    let none = c.in-None.ensures.cases.0 in
    let empty : length c.loop-at.stack.items ≡ 0 = omega arith in
    walk_is_over (problem_of c.args.inst.now) c.args.line c.loop-at.at c.args.tree.now (Leaf 0) c.loop-at-test.true c.loop-at.stack.items c.loop-at.cost
    (nil_from_length c.loop-at.stack.items empty) c.loop-at.invariant

pub returns-then-not-does_settle : goal.returns-then-not-does_settle
returns-then-not-does_settle c =
    walk_breaks (problem_of c.args.inst.now) c.args.line c.loop-at.at c.args.tree.now _ c.loop-at-test.true c.loop-at.stack.items c.pop.new.self.items c.in-Some.group c.loop-at.cost
    c.in-Some.ensures.items (sym c.if-not-does_settle.ensures) c.loop-at.invariant

pub settle-requires-clause-within : goal.settle-requires-clause-within
settle-requires-clause-within c = (top_within (problem_of c.args.inst.now) c.loop-at.stack.items c.pop.new.self.items c.in-Some.group c.in-Some.ensures.items c.loop-at.invariant.within).1

pub settle-requires-clause-all_within : goal.settle-requires-clause-all_within
settle-requires-clause-all_within c = (top_within (problem_of c.args.inst.now) c.loop-at.stack.items c.pop.new.self.items c.in-Some.group c.in-Some.ensures.items c.loop-at.invariant.within).0

pub loop-at-preserved : goal.loop-at-preserved
loop-at-preserved c =
    walk_goes_on (problem_of c.args.inst.now) c.args.line c.loop-at.at c.args.tree.now _ c.loop-at-test.true c.loop-at.stack.items c.pop.new.self.items c.settle.new.stack.items c.in-Some.group c.loop-at.cost c.in_ok-more-in-Some.more
    c.in-Some.ensures.items (sym c.if-not-does_settle.ensures) c.in_ok-more-in-Some.ensures.left c.in_ok-more-in-Some.ensures.within c.in_ok-more-in-Some.ensures.cost c.in_ok-more-in-Some.ensures.small c.loop-at.invariant

pub returns-then-left-eq0 : goal.returns-then-left-eq0
returns-then-left-eq0 c =
    let n = c.len-left.ensures in
    let z = c.if-left-eq0.true in
    let none : length c.loop-at.stack.items ≡ 0 = omega arith in
    walk_ends (problem_of c.args.inst.now) c.args.line c.loop-at.at c.args.tree.now c.loop-at.stack.items c.loop-at.cost c.loop-at-test.false (nil_from_length c.loop-at.stack.items none) c.loop-at.invariant

pub returns : goal.returns
returns c =
    let n = c.len-left.ensures in
    let z = c.if-left-eq0.false in
    let le = c.loop-at.auto.at-end in
    let past = c.loop-at-test.false in
    let end : c.loop-at.at ≡ length c.args.tree.now = omega arith in
    walk_is_short (problem_of c.args.inst.now) c.args.line c.loop-at.at c.args.tree.now c.loop-at.stack.items c.loop-at.cost end (omega arith) c.loop-at.invariant
    ∙ ap (λ (k : ℕ). Some (record { line = c.args.line + k; code = C03 })) end

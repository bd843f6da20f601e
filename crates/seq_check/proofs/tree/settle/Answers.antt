use Rattle.std.proofs.Common.{◌≡◌, get_or, ap, sym, ◌∙◌, arith}
use Rattle.std.proofs.lemmas.List.{get_or_default}
use Rattle.seq_inst.specs.Instances.{problem_of}
use Rattle.seq_inst.specs.Members.{members}
use Rattle.seq_cert.specs.declared.report.TreeLine.{TreeLine}
use Rattle.seq_check.specs.TreeLooks.{left_after}
use Rattle.seq_check.specs.Walked.{waiting}
use Rattle.seq_check.proofs.Settled.{both_left, both_within, small_cost, ask_there}
use Rattle.seq_check.proofs.tree.settle.Goals as goal

pub returns-in_ok-push-in-Ask-2-clause-left : goal.returns-in_ok-push-in-Ask-2-clause-left
returns-in_ok-push-in-Ask-2-clause-left c =
    let p = problem_of c.args.inst.now in
    both_left p c.in-Ask.test (members c.args.group.now) c.args.stack.now.items c.push.new.self.items c.push-in-Ask.new.self.items c.parts_of-parts.result.fail c.parts_of-parts.result.pass
    c.in_ok-push-in-Ask.ensures.items c.in_ok-push-in-Ask-2.ensures.items c.parts_of-parts.ensures.fail c.parts_of-parts.ensures.pass
    ∙ ap (λ (l : TreeLine). left_after p (members c.args.group.now) l (waiting c.args.stack.now.items)) (sym c.in-Ask.is)

pub returns-in_ok-push-in-Ask-2-clause-within : goal.returns-in_ok-push-in-Ask-2-clause-within
returns-in_ok-push-in-Ask-2-clause-within c =
    both_within (problem_of c.args.inst.now) c.in-Ask.test (members c.args.group.now) c.args.stack.now.items c.push.new.self.items c.push-in-Ask.new.self.items c.parts_of-parts.result.fail c.parts_of-parts.result.pass
    c.in_ok-push-in-Ask.ensures.items c.in_ok-push-in-Ask-2.ensures.items c.parts_of-parts.ensures.fail c.parts_of-parts.ensures.pass c.requires.within c.requires.all_within

pub returns-in_ok-push-in-Ask-2-clause-small : goal.returns-in_ok-push-in-Ask-2-clause-small
returns-in_ok-push-in-Ask-2-clause-small c =
    let inst = c.args.inst.now in
    let p = problem_of inst in
    let there = ask_there p (members c.args.group.now) c.args.line c.in-Ask.test c.in-Ask.is c.requires.settles in
    let most = ((inst.valid).costs c.in-Ask.test there).1 in
    let cost : c.from.result ≡ get_or inst.costs.items c.in-Ask.test 0 = c.from.ensures ∙ c.index.ensures ∙ get_or_default inst.costs.items c.in-Ask.test c.index.result.now 0 there in
    let heavy = inst.stands.light c.args.group.now c.requires.within in
    let weight = c.weight_of.ensures in
    let wide = c.from-in-Ask.ensures in
    small_cost c.from.result c.from-in-Ask.result (omega arith) (omega arith)

use Rattle.std.proofs.Common.{◌≡◌, ℕ, ◌<◌, List, length, get_or, ◌∙◌, refl, sym, ap, subst, arith}
use Rattle.std.proofs.lemmas.List.{get_or_default}
use Rattle.std.proofs.lemmas.Option.{slice_get_read}
use Rattle.seq_theory.specs.Problem.{IsIn, splitting}
use Rattle.seq_theory.proofs.PartsRecursion.{splitting-there}
use Rattle.seq_inst.specs.Members.{members}
use Rattle.seq_inst.specs.Instances.{problem_of}
use Rattle.seq_graph.specs.declared.node.Waiting.{Waiting}
use Rattle.seq_graph.proofs.KeptLaws.{evaluated-keeps, same-keeps}
use Rattle.seq_graph.proofs.RoomLaws.{push-done, push-kept}
use Rattle.seq_graph.proofs.node.Node.evaluate.Goals as goal

pub split_by-requires-clause-there : goal.split_by-requires-clause-there
split_by-requires-clause-there c =
    let p = problem_of c.args.inst.now in
    let g = members c.args.group.now in
    let many = c.args.self.now.waiting.ok.0 in
    let there : c.args.at < length c.args.self.now.waiting.items = omega arith in
    let i = c.requires.splits c.args.at c.index.result.now there in
    let lt = splitting-there p g c.index.result.now.test (subst (λ (w : Waiting). IsIn w.test (splitting p g)) (sym c.index.ensures) i) in
    let tests = c.args.inst.now.costs.ok.0 in
    omega arith

-- the entry that was read is the one that is taken out
same-entry : (xs : List Waiting) (k : ℕ) (read taken : Waiting) → k < length xs → read ≡ get_or xs k read → taken ≡ get_or xs k taken → read ≡ taken
same-entry xs k read taken lt r t = r ∙ get_or_default xs k read taken lt ∙ sym t

pub returns-clause-evaluated : goal.returns-clause-evaluated
returns-clause-evaluated c = λ done.
    let many = c.args.self.now.waiting.ok.0 in
    let there : c.args.at < length c.args.self.now.waiting.items = omega arith in
    record {
      entry = c.swap_remove.result;
      split = c.in-Some.split;
      waited = slice_get_read c.args.self.now.waiting.items (length c.args.self.now.waiting.items) c.args.at c.swap_remove.result refl there c.swap_remove.ensures.value;
      waiting = c.swap_remove.ensures.items;
      test_is = c.in-Some.ensures.test ∙ ap (λ (w : Waiting). w.test) (same-entry c.args.self.now.waiting.items c.args.at c.index.result.now c.swap_remove.result there c.index.ensures c.swap_remove.ensures.value);
      parts = c.in-Some.ensures.parts;
      splits = push-done c.push.result c.args.self.now.splits.items c.push.new.self.items c.in-Some.split (sym c.is_err.ensures.value ∙ c.if-is_err.false) c.push.ensures.items;
    }

pub returns-then-is_err-clause-tests : goal.returns-then-is_err-clause-tests
returns-then-is_err-clause-tests c =
    same-keeps (problem_of c.args.inst.now) (members c.args.group.now) c.args.numbers.now c.split_by.new.numbers c.args.self.now (record { number = c.args.self.now.number; weight = c.args.self.now.weight; bound = c.args.self.now.bound; capped = c.args.self.now.capped; most = c.args.self.now.most; splits = c.push.new.self; waiting = c.args.self.now.waiting }) c.split_by.ensures.keeps
    (push-kept c.push.result c.args.self.now.splits.items c.push.new.self.items c.in-Some.split (sym c.is_err.ensures.value ∙ c.if-is_err.true) c.push.ensures.items) refl

pub returns-clause-tests : goal.returns-clause-tests
returns-clause-tests c =
    let many = c.args.self.now.waiting.ok.0 in
    let there : c.args.at < length c.args.self.now.waiting.items = omega arith in
    evaluated-keeps (problem_of c.args.inst.now) (members c.args.group.now) c.args.numbers.now c.split_by.new.numbers c.split_by.ensures.keeps c.args.at c.args.self.now (record { number = c.args.self.now.number; weight = c.args.self.now.weight; bound = c.args.self.now.bound; capped = c.args.self.now.capped; most = c.args.self.now.most; splits = c.push.new.self; waiting = c.swap_remove.new.self }) (record {
      entry = c.swap_remove.result;
      split = c.in-Some.split;
      waited = slice_get_read c.args.self.now.waiting.items (length c.args.self.now.waiting.items) c.args.at c.swap_remove.result refl there c.swap_remove.ensures.value;
      waiting = c.swap_remove.ensures.items;
      test_is = c.in-Some.ensures.test ∙ ap (λ (w : Waiting). w.test) (same-entry c.args.self.now.waiting.items c.args.at c.index.result.now c.swap_remove.result there c.index.ensures c.swap_remove.ensures.value);
      parts = c.in-Some.ensures.parts;
      splits = push-done c.push.result c.args.self.now.splits.items c.push.new.self.items c.in-Some.split (sym c.is_err.ensures.value ∙ c.if-is_err.false) c.push.ensures.items;
    })

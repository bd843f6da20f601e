use Rattle.std.proofs.Common.{◌≡◌, ◌<◌, [], List, ℕ, subst, sym, ◌∙◌, take, filter, length, get_or, arith}
use Rattle.std.proofs.lemmas.List.{get_or_read}
use Rattle.seq_inst.specs.Instances.{problem_of}
use Rattle.seq_cert.specs.ByClass.{Picks}
use Rattle.seq_cert.specs.OutcomeReport.{is_of}
use Rattle.seq_cert.proofs.Appended.{classes_more}
use Rattle.seq_cert.proofs.classes.write_classes.Goals as goal

pub loop-class-preserved : goal.loop-class-preserved
loop-class-preserved c =
    let k = c.loop-class.class in
    let states = c.args.states.now in
    let lists = c.in_ok-lists.lists.items in
    let weights = c.args.inst.now.weights.items in
    let end = c.len-class-end.ensures in
    let is_class : k < length weights = omega arith in
    let count = c.in_ok-lists.ensures.count in
    let is_list : k < length lists = omega arith in
    let numbers : c.as_slice-numbers.result.now ≡ get_or lists k [] = c.as_slice-numbers.ensures ∙ get_or_read lists k c.index.result.now is_list c.index.ensures [] in
    let weight = get_or_read weights k c.index-in-loop-class.result.now is_class c.index-in-loop-class.ensures 0 in
    let picks = subst (λ (l : List ℕ). Picks states l (filter (is_of k) (take (length states) states))) (sym numbers) (c.in_ok-lists.ensures.picks k (omega arith)) in
    classes_more (problem_of c.args.inst.now) states _ _ _ k c.index-in-loop-class.result.now c.as_slice-numbers.result.now weight picks c.loop-class.invariant c.in_ok-write_class.ensures

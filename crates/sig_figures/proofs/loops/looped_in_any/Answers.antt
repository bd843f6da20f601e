use Rattle.std.proofs.Common.{◌≡◌, ◌+◌, length, ap, sym, ◌∙◌, subst, vec_len, arith}
use Rattle.std.specs.Prelude.{◌||◌}
use Rattle.std.proofs.lemmas.List.{with_items_is}
use Rattle.sig_reach.specs.Marks.{is_marked}
use Rattle.sig_figures.proofs.LoopLaws.{MarksLoops, loops-more}
use Rattle.sig_figures.proofs.loops.looped_in_any.Goals as goal

pub loop-mode-preserved : goal.loop-mode-preserved
loop-mode-preserved c =
    let flat = c.args.flat.now in
    let mode = c.loop-mode.mode in
    let marks = c.loop-mode.marks in
    let new = c.add_marks.new.marks in
    let lent = c.as_mut_slice.ensures.len in
    let long : length new ≡ vec_len marks = omega arith in
    subst (MarksLoops flat (mode + 1)) (sym (with_items_is marks new long))
    (loops-more flat mode marks.items c.in_ok-nodes.nodes.items new c.in_ok-nodes.ensures.loops
    (λ v. c.add_marks.ensures v ∙ ap (λ l. is_marked l v || is_marked c.as_slice.result.now v) c.as_mut_slice.ensures.value ∙ ap (λ l. is_marked marks.items v || is_marked l v) c.as_slice.ensures.value)
    (let value = ap length c.as_mut_slice.ensures.value in omega arith) c.loop-mode.invariant)

use Rattle.std.proofs.Common.{◌+◌}
use Rattle.std.proofs.lemmas.Result.{err_from_is_err_and}
use Rattle.std.specs.Vec.Iter.{into_iter_items}
use Rattle.toml.specs.View.{view, items_view}
use Rattle.sig_types.specs.Spots.{at_element}
use Rattle.sig_text.specs.Values.{each_breaches}
use Rattle.sig_text.proofs.First.{told_before}
use Rattle.sig_text.proofs.arrays.elements_in.Goals as goal

pub returns-in_err-element : goal.returns-in_err-element
returns-in_err-element g c =
    let exit = err_from_is_err_and c.from_residual.result c.from_residual.ensures.1 in
    let here = g.T.FromValue.breaches (at_element c.args.at c.loop-value.number) (view c.in-Some.value) in
    let later = each_breaches g.T.FromValue.breaches c.args.at (c.loop-value.number + 1) (items_view (into_iter_items c.next.new.self)) in
    rw (exit.1, exit.2, c.loop-value.invariant.1, c.in-Some.ensures.steps.0)
    (told_before c.in_err-element.field-0.0 here later (rw c.element.ensures at c.in_err-element.ensures))

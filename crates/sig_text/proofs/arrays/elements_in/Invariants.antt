use Rattle.std.proofs.Common.{◌≡◌, ◌+◌, ◌++◌, length}
use Rattle.std.specs.Vec.Iter.{into_iter_items}
use Rattle.toml.specs.View.{items_view}
use Rattle.sig_text.specs.Values.{each_breaches, each_of}
use Rattle.sig_text.proofs.arrays.elements_in.Given as goal

-- no breach before the elements that are left, and the list has what those before them stand for
abbrev pub invariant-loop-value : goal.invariant-loop-value
invariant-loop-value g l =
    (l.number + length (into_iter_items l.value-iterator) ≡ length l.fn.items.items)
    × (each_breaches g.T.FromValue.breaches l.at 0 (items_view l.fn.items.items) ≡ each_breaches g.T.FromValue.breaches l.at l.number (items_view (into_iter_items l.value-iterator)))
    × (each_of g.T.FromValue.stands_for (items_view l.fn.items.items) ≡ l.elements ++ each_of g.T.FromValue.stands_for (items_view (into_iter_items l.value-iterator)))

use Rattle.std.proofs.Common.{◌≡◌, ◌++◌, drop}
use Rattle.sig_flat.specs.Counting.{sizes_in}
use Rattle.sig_flat.specs.Layouts.{inners_from}
use Rattle.sig_flat.proofs.inner.inners_of.Given as goal

abbrev pub invariant-loop-nth : goal.invariant-loop-nth
invariant-loop-nth l = inners_from (sizes_in l.counts) l.own l.uses l.numbers ≡ l.inners ++ inners_from (sizes_in l.counts) l.offset (drop l.nth l.uses) (drop l.nth l.numbers)

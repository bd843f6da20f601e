use Rattle.std.proofs.Common.{◌≡◌, ◌+◌, [], ◌∷◌, ◌++◌, take, get_or}
use Rattle.std.specs.List.{flat_map}
use Rattle.sig_flat.specs.declared.inner.Inner.{Inner}
use Rattle.sig_flat.specs.Placed.{placed_at, inner_prefix, PrefixesShown}
use Rattle.sig_flat.proofs.walk.+place_instances.Given as goal

abbrev pub decreases-place_instances : goal.decreases-place_instances
decreases-place_instances l = l.block

abbrev pub invariant-loop-inner : goal.invariant-loop-inner
invariant-loop-inner l = (l.placed ≡ (l.fn.placed ++ record { prefix = l.prefix; block = l.block; start = l.start } ∷ []) ++ flat_map (λ (inner : Inner). placed_at l.inners (inner_prefix l.prefix inner.name) inner.block (l.start + inner.offset)) (take l.inner-index (get_or l.inners l.block []))) × (PrefixesShown l.fn.placed → PrefixesShown l.placed)

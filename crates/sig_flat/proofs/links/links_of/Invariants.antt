use Rattle.std.proofs.Common.{◌≡◌, map, take}
use Rattle.sig_flat.specs.Known.{use_names}
use Rattle.sig_flat.specs.Places.{own_names}
use Rattle.sig_flat.specs.Resolved.{block_at}
use Rattle.sig_flat.specs.Layouts.{link_pattern}
use Rattle.sig_flat.proofs.links.links_of.Given as goal

abbrev pub invariant-loop-link : goal.invariant-loop-link
invariant-loop-link l = l.patterns ≡ map (link_pattern l.valid.modes (own_names (block_at l.valid.blocks l.block)) (use_names (block_at l.valid.blocks l.block)) l.inners (map own_names l.valid.blocks)) (take l.link-index l.link-items)

use Rattle.std.proofs.Common.{◌≡◌, ◌++◌, map, take}
use Rattle.sig_flat.specs.Placed.{link_copy}
use Rattle.sig_flat.proofs.copies.copy_links.Given as goal

abbrev pub invariant-loop-link : goal.invariant-loop-link
invariant-loop-link l = l.links ≡ l.initial.links ++ map (link_copy l.placed) (take l.link-index l.patterns)

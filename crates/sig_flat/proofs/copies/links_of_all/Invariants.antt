use Rattle.std.proofs.Common.{◌≡◌, take}
use Rattle.std.specs.List.{flat_map}
use Rattle.sig_flat.specs.Placed.{link_copies}
use Rattle.sig_flat.proofs.copies.links_of_all.Given as goal

abbrev pub invariant-loop-instance : goal.invariant-loop-instance
invariant-loop-instance l = l.links ≡ flat_map (link_copies l.patterns) (take l.instance-index l.placed)

use Rattle.std.proofs.Common.{◌≡◌, take}
use Rattle.std.specs.List.{flat_map}
use Rattle.sig_flat.specs.Placed.{node_copies, NodesLabelled}
use Rattle.sig_flat.proofs.copies.nodes_of_all.Given as goal

abbrev pub invariant-loop-instance : goal.invariant-loop-instance
invariant-loop-instance l = (l.nodes ≡ flat_map (node_copies l.patterns) (take l.instance-index l.placed)) × NodesLabelled l.nodes

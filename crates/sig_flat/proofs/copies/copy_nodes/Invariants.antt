use Rattle.std.proofs.Common.{◌≡◌, ◌++◌, map, take}
use Rattle.sig_flat.specs.Placed.{node_copy, NodesLabelled}
use Rattle.sig_flat.proofs.copies.copy_nodes.Given as goal

abbrev pub invariant-loop-node : goal.invariant-loop-node
invariant-loop-node l = (l.nodes ≡ l.initial.nodes ++ map (node_copy l.placed) (take l.node-index l.patterns)) × (NodesLabelled l.initial.nodes → NodesLabelled l.nodes)

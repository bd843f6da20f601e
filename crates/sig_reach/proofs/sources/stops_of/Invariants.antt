use Rattle.std.proofs.Common.{◌≡◌, take, map}
use Rattle.sig_reach.specs.Paths.{stopped_by}
use Rattle.sig_reach.proofs.sources.stops_of.Given as goal

abbrev pub invariant-loop-node : goal.invariant-loop-node
invariant-loop-node l = l.stops.items ≡ map stopped_by (take l.node-index l.node-items)

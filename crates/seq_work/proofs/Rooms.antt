-- A graph with room for some groups has room for fewer.
use Rattle.std.proofs.Common.{ℕ, ◌≤◌, arith}
use Rattle.seq_graph.specs.declared.graph.Graph.{Graph}
use Rattle.seq_graph.specs.Rooms.{HasRoom}

pub less-room : (few many : ℕ) (g : Graph) → few ≤ many → HasRoom many g → HasRoom few g
less-room few many g le r = record {
  rows = let x = r.rows in omega arith;
  nodes = let x = r.nodes in omega arith;
  numbers = let x = r.numbers in omega arith;
  counts = r.counts;
}

use Rattle.std.proofs.Common.{arith}
use Rattle.seq_inst.specs.Instances.{problem_of}
use Rattle.seq_graph.proofs.NumberLaws.{keeps-long}
use Rattle.seq_graph.proofs.CountLaws.{counts-long}
use Rattle.seq_graph.proofs.CountChanges.{grown-known}
use Rattle.seq_graph.proofs.learning.greedys_cost.Goals as goal

pub count_new-requires-clause-fewer : goal.count_new-requires-clause-fewer
count_new-requires-clause-fewer c =
    let s = c.args.graph.now in
    let long = counts-long (problem_of c.args.inst.now) s.numbers s.rows.items s.nodes.items s.counts.items c.requires.known in
    let more = keeps-long s.numbers.groups c.greedy_from-cost.new.self.groups c.greedy_from-cost.ensures.keeps in
    omega arith

pub returns-clause-known : goal.returns-clause-known
returns-clause-known c =
    let s = c.args.graph.now in
    let e = c.greedy_from-cost.ensures in
    grown-known c.args.inst.now s.numbers c.greedy_from-cost.new.self s.rows.items s.nodes.items s.counts.items c.requires.known e.numbers e.keeps c.count_new.new.counts.items c.count_new.ensures.counts

pub returns-clause-keeps : goal.returns-clause-keeps
returns-clause-keeps c =
    λ more room.
    let e = c.greedy_from-cost.ensures.room in
    let numbers = room.numbers in
    let held = e.held in
    let all = e.all in
    let counts = room.counts in
    let grown = c.count_new.ensures.capacity in
    record {
      rows = room.rows;
      nodes = room.nodes;
      numbers = omega arith;
      counts = omega arith;
    }

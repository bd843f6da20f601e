use Rattle.std.proofs.Common.{◌∙◌, sym, arith}
use Rattle.seq_inst.specs.Members.{members}
use Rattle.seq_inst.specs.Instances.{problem_of}
use Rattle.seq_graph.proofs.GreedyChoiceLaws.{either-evaluated, splitting-in}
use Rattle.seq_graph.proofs.numbers.Numbers.better.Goals as goal

pub returns-then-splits-clause-evaluated : goal.returns-then-splits-clause-evaluated
returns-then-splits-clause-evaluated c =
    let p = problem_of c.args.inst.now in
    let g = members c.args.group.now in
    let n = c.args.inst.now.costs.ok.0 in
    let t = c.requires.there in
    either-evaluated p g c.args.earlier (record { test = c.args.test; sum = c.bound_sum-sum.result }) c.choose.result c.choose.ensures.either c.requires.earlier
    (record { test = splitting-in p g c.args.test (omega arith) (sym c.splits.ensures ∙ c.if-splits.true); sum = c.bound_sum-sum.ensures.value })

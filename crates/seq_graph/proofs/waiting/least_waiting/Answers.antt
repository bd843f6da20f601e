use Rattle.std.proofs.Common.{◌≡◌, length, arith}
use Rattle.seq_graph.proofs.WaitingLaws.{least-all}
use Rattle.seq_graph.proofs.waiting.least_waiting.Goals as goal

pub returns-clause-least : goal.returns-clause-least
returns-clause-least c =
    let end : c.loop-at.at ≡ length c.args.waiting.now = omega arith in
    least-all c.args.waiting.now c.loop-at.at c.loop-at.least c.loop-at.invariant end

use Rattle.std.proofs.Common.{arith}
use Rattle.seq_theory.proofs.RowLaws.{wanted-within}
use Rattle.seq_inst.specs.Members.{members}
use Rattle.seq_inst.specs.Instances.{problem_of}
use Rattle.seq_graph.proofs.EventLaws.{greedy-right}
use Rattle.seq_graph.proofs.tests.learn_part.Goals as goal

pub greedys_cost-cost-requires-clause-within : goal.greedys_cost-cost-requires-clause-within
greedys_cost-cost-requires-clause-within c = wanted-within (problem_of c.args.inst.now) (members c.in-Enter.group) c.in-Enter.ensures.step.real.wanted

pub learn-requires-clause-room : goal.learn-requires-clause-room
learn-requires-clause-room c = c.greedys_cost-cost.ensures.keeps 1 (c.next_step.ensures.keeps 1 c.in_ok-grow.ensures.room)

pub learn-requires-clause-right : goal.learn-requires-clause-right
learn-requires-clause-right c =
    let value = c.greedys_cost-cost.ensures.value in
    greedy-right c.args.inst.now (members c.in-Enter.group) c.greedys_cost-cost.result (wanted-within (problem_of c.args.inst.now) (members c.in-Enter.group) c.in-Enter.ensures.step.real.wanted) (omega arith)

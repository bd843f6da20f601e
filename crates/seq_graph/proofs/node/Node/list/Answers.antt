use Rattle.std.proofs.Common.{min, sym, subst}
use Rattle.seq_theory.specs.Bound.{bound, step_sum}
use Rattle.seq_inst.specs.Members.{members}
use Rattle.seq_inst.specs.Instances.{problem_of}
use Rattle.seq_graph.specs.KeptOf.{AreTestsOf}
use Rattle.seq_graph.proofs.node.Node.list.Goals as goal

pub returns-clause-tests : goal.returns-clause-tests
returns-clause-tests c v =
    let p = problem_of c.args.inst.now in
    let g = members c.args.group.now in
    subst (λ l. AreTestsOf p v g (step_sum p (bound p) g) (min c.args.cap c.list_waiting-self.result) l c.list_waiting-self.new.waiting.items) (sym c.clear.ensures.items) (c.list_waiting-self.ensures v)

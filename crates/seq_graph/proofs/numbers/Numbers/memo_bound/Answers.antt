use Rattle.std.proofs.Common.{sym, subst}
use Rattle.seq_inst.specs.Instances.{problem_of}
use Rattle.seq_graph.specs.Numbered.{AreNumbers}
use Rattle.seq_graph.proofs.NumberedLaws.{numbered_from, numbers-memo}
use Rattle.seq_graph.proofs.numbers.Numbers.memo_bound.Goals as goal

pub returns-clause-numbers : goal.returns-clause-numbers
returns-clause-numbers c =
    let p = problem_of c.args.inst.now in
    let v = c.self.inside in
    numbers-memo p (numbered_from v.memo v.bounds.entries v.greedy.items v.room v.held) c.bound_of.new.self c.bound_of.ensures.memo (subst (AreNumbers p) (sym c.self.view_is) c.requires.numbers)

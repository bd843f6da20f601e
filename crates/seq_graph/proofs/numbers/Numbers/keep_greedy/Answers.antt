use Rattle.std.proofs.Common.{sym, subst}
use Rattle.seq_inst.specs.Instances.{problem_of}
use Rattle.seq_inst.specs.Members.{members}
use Rattle.seq_graph.specs.Numbered.{AreNumbers}
use Rattle.seq_graph.proofs.NumberedLaws.{numbers-greedy}
use Rattle.seq_graph.proofs.numbers.Numbers.keep_greedy.Goals as goal

pub returns-in-Some-clause-numbers : goal.returns-in-Some-clause-numbers
returns-in-Some-clause-numbers c =
    let p = problem_of c.args.inst.now in
    subst (AreNumbers p) (sym c.write_greedy.ensures) (numbers-greedy p c.number_within.new.self c.number_within.ensures.numbers (members c.args.group.now) c.in-Some.number c.args.greedy c.in-Some.ensures.number c.requires.greedy)

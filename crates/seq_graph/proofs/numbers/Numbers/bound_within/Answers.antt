use Rattle.std.proofs.Common.{◌∙◌, sym, arith}
use Rattle.seq_theory.proofs.GreedyLaws.{bound-end}
use Rattle.seq_inst.specs.Instances.{problem_of}
use Rattle.seq_inst.specs.Members.{members}
use Rattle.seq_graph.proofs.NumberedLaws.{kept-bound}
use Rattle.seq_graph.proofs.numbers.Numbers.bound_within.Goals as goal

pub returns-then-is_leaf-clause-value : goal.returns-then-is_leaf-clause-value
returns-then-is_leaf-clause-value c = sym (bound-end (problem_of c.args.inst.now) (members c.args.group.now) (sym c.is_leaf.ensures ∙ c.if-is_leaf.true))

pub returns-in-Some-clause-fits : goal.returns-in-Some-clause-fits
returns-in-Some-clause-fits c =
    let e = kept-bound (problem_of c.args.inst.now) c.args.self.now c.requires.numbers (members c.args.group.now) c.in-Some.number c.bound_at.result c.in-Some.ensures.found c.bound_at.ensures in
    let s = c.args.inst.now.stands.bound_fits c.args.group.now c.requires.within in
    omega arith

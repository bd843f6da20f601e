use Rattle.std.proofs.Common.{refl}
use Rattle.seq_theory.specs.Bound.{bound}
use Rattle.seq_inst.specs.Members.{members}
use Rattle.seq_inst.specs.Instances.{problem_of}
use Rattle.seq_graph.proofs.KeptLaws.{tests-unlisted}
use Rattle.seq_graph.proofs.NumberedLaws.{kept-bound}
use Rattle.seq_graph.proofs.node.Node.of.Goals as goal

pub returns-clause-kept : goal.returns-clause-kept
returns-clause-kept c =
    let p = problem_of c.args.inst.now in
    let g = members c.args.group.now in
    let n = c.number_of-number in
    record {
      number = n.ensures.number;
      weight = c.weight_of-weight.ensures;
      bound = kept-bound p n.new.self n.ensures.numbers g n.result c.bound_at-bound.result n.ensures.number c.bound_at-bound.ensures;
      uncapped = refl;
      tests = tests-unlisted c.args.inst.now (bound p) g n.new.self c.requires.within _ _ c.new.ensures.items c.new-2.ensures.items;
    }

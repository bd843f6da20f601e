use Rattle.std.proofs.Common.{sym, subst}
use Rattle.seq_theory.specs.Graph.{IsWanted, root}
use Rattle.seq_theory.proofs.RowLaws.{wanted-within}
use Rattle.seq_huff.specs.Bounds.{greatest_cost}
use Rattle.seq_inst.specs.Members.{members}
use Rattle.seq_inst.specs.Instances.{problem_of}
use Rattle.seq_graph.proofs.EventLaws.{greedy-right}
use Rattle.seq_graph.proofs.tests.learnt_root.Goals as goal

pub learn-requires-clause-real : goal.learn-requires-clause-real
learn-requires-clause-real c = record { wanted = subst (IsWanted (problem_of c.args.inst.now)) (sym c.requires.all) root; goals = c.requires.goals }

pub learn-requires-clause-right : goal.learn-requires-clause-right
learn-requires-clause-right c =
    let p = problem_of c.args.inst.now in
    let g = c.args.all.now in
    let within = wanted-within p (members g) (subst (IsWanted p) (sym c.requires.all) root) in
    greedy-right c.args.inst.now (members g) greatest_cost within (c.args.inst.now.stands.greedy_fits g within)

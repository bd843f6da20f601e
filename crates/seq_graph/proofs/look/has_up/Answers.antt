use Rattle.std.proofs.Common.{◌∙◌}
use Rattle.seq_inst.specs.Members.{members}
use Rattle.seq_inst.specs.Instances.{problem_of}
use Rattle.seq_graph.proofs.LookLaws.{end-up}
use Rattle.seq_graph.proofs.look.has_up.Goals as goal

pub returns-in-None : goal.returns-in-None
returns-in-None c =
    let s = c.args.graph.now in
    c.is_leaf.ensures ∙ end-up (problem_of c.args.inst.now) s.numbers s.rows.items s.nodes.items s.counts.items c.requires.known (members c.args.group.now) c.in-None.ensures.none

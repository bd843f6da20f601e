use Rattle.std.proofs.Common.{◌∙◌, sym, ap}
use Rattle.seq_inst.specs.Members.{members}
use Rattle.seq_inst.specs.Instances.{problem_of}
use Rattle.seq_inst.specs.declared.group.Group.{Group}
use Rattle.seq_theory.specs.Problem.{splits as is_split}
use Rattle.seq_graph.proofs.PlainLaws.{up-more, up-same}
use Rattle.seq_graph.proofs.plain.with_up.Goals as goal

pub returns : goal.returns
returns c =
    let p = problem_of c.args.inst.now in
    let rows = c.args.graph.now.rows.items in
    up-same p rows c.args.place c.args.test c.args.least c.requires.least (ap (λ (g : Group). is_split p (members g) c.args.test) (sym c.requires.group) ∙ sym c.splits.ensures ∙ c.if-splits.false)

pub returns-then-splits : goal.returns-then-splits
returns-then-splits c =
    let p = problem_of c.args.inst.now in
    let rows = c.args.graph.now.rows.items in
    let n = c.args.inst.now.costs.ok.0 in
    up-more p rows c.args.place c.args.test c.args.least c.min.result c.plain_up.result c.requires.least c.requires.there (ap (λ (g : Group). is_split p (members g) c.args.test) (sym c.requires.group) ∙ sym c.splits.ensures ∙ c.if-splits.true) c.plain_up.ensures c.min.ensures

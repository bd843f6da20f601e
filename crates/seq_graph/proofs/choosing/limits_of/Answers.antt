use Rattle.std.proofs.Common.{ap, sym, subst}
use Rattle.std.proofs.lemmas.List.{get_or_read}
use Rattle.seq_inst.specs.declared.outcome.Row.{Row}
use Rattle.seq_inst.specs.Members.{members}
use Rattle.seq_inst.specs.Instances.{problem_of}
use Rattle.seq_graph.specs.Choosing.{IsLowOf}
use Rattle.seq_graph.specs.Known.{no_row, group_at}
use Rattle.seq_graph.proofs.ChoosingLaws.{low-limit}
use Rattle.seq_graph.proofs.choosing.limits_of.Goals as goal

pub returns : goal.returns
returns c =
    let s = c.args.graph.now in
    let rows = s.rows.items in
    let read = get_or_read rows c.args.place c.index-row.result.now c.requires.place c.index-row.ensures no_row in
    subst (IsLowOf (problem_of c.args.inst.now) (members (group_at rows c.args.place))) (sym c.max.ensures)
    (low-limit c.args.inst.now rows c.requires.known.rows_are c.args.place c.requires.place c.args.least c.index-row.result.now.low c.requires.least (ap (λ (r : Row). r.low) read))

use Rattle.std.proofs.Common.{◌∙◌, ap, arith}
use Rattle.std.proofs.lemmas.List.{get_or_read}
use Rattle.seq_inst.specs.Instances.{problem_of}
use Rattle.seq_inst.specs.declared.outcome.Row.{Row}
use Rattle.seq_graph.specs.Known.{no_row}
use Rattle.seq_graph.proofs.PlainLaws.{up-none, up-all}
use Rattle.seq_graph.proofs.plain.plain_least_up.Goals as goal

pub loop-test-init : goal.loop-test-init
loop-test-init c =
    up-none (problem_of c.args.inst.now) c.args.graph.now.rows.items c.args.place

pub with_up-least-requires-clause-group : goal.with_up-least-requires-clause-group
with_up-least-requires-clause-group c = ap (λ (r : Row). r.group) (get_or_read c.args.graph.now.rows.items c.args.place c.index.result.now c.requires.place c.index.ensures no_row)

pub returns : goal.returns
returns c =
    let n = c.len-tests.ensures ∙ c.args.inst.now.costs.ok.0 in
    up-all (problem_of c.args.inst.now) c.args.graph.now.rows.items c.args.place c.loop-test.test c.loop-test.least (omega arith) c.loop-test.invariant

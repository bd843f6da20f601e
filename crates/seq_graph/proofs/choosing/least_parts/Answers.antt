use Rattle.std.proofs.Common.{◌<◌, ◌∙◌, length, ap, arith}
use Rattle.seq_theory.specs.Bound.{step_sum}
use Rattle.seq_theory.specs.Rows.{known_low}
use Rattle.seq_theory.proofs.PartsRecursion.{splitting-there}
use Rattle.seq_inst.specs.Members.{members}
use Rattle.seq_inst.specs.Instances.{problem_of}
use Rattle.seq_core.specs.RowsOf.{rows_of as rows_from}
use Rattle.seq_graph.specs.Known.{group_at}
use Rattle.seq_graph.specs.Steps.{least_test}
use Rattle.seq_graph.proofs.SplitLaws.{first-test}
use Rattle.seq_graph.proofs.choosing.least_parts.Goals as goal

pub parts_of-parts-requires : goal.parts_of-parts-requires
parts_of-parts-requires c =
    let rows = c.least_test-least.new.graph.rows.items in
    let e = c.least_test-least.ensures in
    let same = ap (λ v. length v.items) e.rows in
    let given = c.requires.place in
    let place : c.args.place < length rows = omega arith in
    let p = problem_of c.args.inst.now in
    let n = c.args.inst.now.costs.ok.0 in
    let is = e.test in
    let there = splitting-there p (members (group_at rows c.args.place)) _ (first-test c.args.inst.now rows e.known.rows_are c.args.place place).among in
    omega arith

pub returns-clause-sum : goal.returns-clause-sum
returns-clause-sum c =
    let e = c.least_test-least.ensures in
    let p = problem_of c.args.inst.now in
    e.sum ∙ ap (λ t. step_sum p (known_low p (rows_from c.least_test-least.new.graph.rows.items)) (members (group_at c.least_test-least.new.graph.rows.items c.args.place)) t) e.test
    ∙ ap (λ v. step_sum p (known_low p (rows_from v.items)) (members (group_at v.items c.args.place)) (least_test p v.items (members (group_at v.items c.args.place)))) e.rows

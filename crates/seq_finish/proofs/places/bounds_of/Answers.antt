use Rattle.std.proofs.Common.{sym, ◌∙◌, ap}
use Rattle.std.specs.Prelude.{is_some}
use Rattle.std.proofs.lemmas.Bool.{true≢false}
use Rattle.seq_theory.proofs.LowLaws.{low-end}
use Rattle.seq_theory.proofs.ValLaws.{val-end}
use Rattle.seq_inst.specs.Members.{members}
use Rattle.seq_inst.specs.Instances.{problem_of}
use Rattle.seq_core.specs.Settled.{groups_in}
use Rattle.seq_finish.proofs.RowLaws.{found-says, none-value}
use Rattle.seq_finish.proofs.places.bounds_of.Goals as goal

pub returns-then-is_leaf-clause-low : goal.returns-then-is_leaf-clause-low
returns-then-is_leaf-clause-low c = sym (low-end (problem_of c.args.inst.now) (groups_in c.args.rows.now) (members c.args.group.now) (sym c.is_leaf.ensures ∙ c.if-is_leaf.true))

pub returns-then-is_leaf-clause-cost : goal.returns-then-is_leaf-clause-cost
returns-then-is_leaf-clause-cost c = val-end (problem_of c.args.inst.now) (groups_in c.args.rows.now) (members c.args.group.now) (sym c.is_leaf.ensures ∙ c.if-is_leaf.true)

pub unreachable-requires : goal.unreachable-requires
unreachable-requires c =
    let none = none-value (problem_of c.args.inst.now) c.args.rows.now (members c.args.group.now) c.row_at.result (sym c.is_leaf.ensures ∙ c.if-is_leaf.false) c.row_at.ensures c.in-None.is in
    true≢false (sym c.requires.valued ∙ ap is_some none)

pub returns-clause-low : goal.returns-clause-low
returns-clause-low c = (found-says (problem_of c.args.inst.now) c.args.rows.now (members c.args.group.now) c.row_at.result c.in-Some.row c.requires.settled c.row_at.ensures c.in-Some.is).low_is

pub returns-clause-cost : goal.returns-clause-cost
returns-clause-cost c = (found-says (problem_of c.args.inst.now) c.args.rows.now (members c.args.group.now) c.row_at.result c.in-Some.row c.requires.settled c.row_at.ensures c.in-Some.is).up_is

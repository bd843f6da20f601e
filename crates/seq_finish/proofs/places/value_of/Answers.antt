use Rattle.std.proofs.Common.{sym, ◌∙◌}
use Rattle.seq_theory.proofs.ValLaws.{val-end}
use Rattle.seq_inst.specs.Members.{members}
use Rattle.seq_inst.specs.Instances.{problem_of}
use Rattle.seq_core.specs.Settled.{groups_in}
use Rattle.seq_finish.proofs.RowLaws.{found-says, none-value}
use Rattle.seq_finish.proofs.places.value_of.Goals as goal

pub returns-then-is_leaf : goal.returns-then-is_leaf
returns-then-is_leaf c = sym (val-end (problem_of c.args.inst.now) (groups_in c.args.rows.now) (members c.args.group.now) (sym c.is_leaf.ensures ∙ c.if-is_leaf.true))

pub returns-in-Some : goal.returns-in-Some
returns-in-Some c = sym (found-says (problem_of c.args.inst.now) c.args.rows.now (members c.args.group.now) c.row_at.result c.in-Some.row c.requires.settled c.row_at.ensures c.in-Some.is).up_is

pub returns-in-None : goal.returns-in-None
returns-in-None c = sym (none-value (problem_of c.args.inst.now) c.args.rows.now (members c.args.group.now) c.row_at.result (sym c.is_leaf.ensures ∙ c.if-is_leaf.false) c.row_at.ensures c.in-None.is)

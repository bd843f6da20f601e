use Rattle.std.proofs.Common.{◌≡◌, ◌<◌, ◌∙◌, refl, length, sym, subst, arith}
use Rattle.std.specs.Prelude.{false}
use Rattle.seq_theory.specs.Graph.{is_entered, IsWanted}
use Rattle.seq_theory.specs.Rows.{groups_of}
use Rattle.seq_inst.specs.Instances.{problem_of}
use Rattle.seq_inst.specs.Members.{members}
use Rattle.seq_core.specs.RowsOf.{rows_of as rows_from}
use Rattle.seq_graph.proofs.choosing_tests.with_all.Goals as goal

pub enter-requires-clause-real : goal.enter-requires-clause-real
enter-requires-clause-real c = record {
  wanted = subst (IsWanted (problem_of c.args.inst.now)) (sym c.root-all.ensures.classes) (IsWanted.root);
  goals = sym c.is_leaf.ensures ∙ c.if-is_leaf.false;
}

pub enter-requires-clause-new : goal.enter-requires-clause-new
enter-requires-clause-new c = subst (λ l. is_entered (groups_of (rows_from l)) (members c.root-all.result) ≡ false) (sym (c.grow.ensures.rows ∙ c.in_ok-graph.ensures.rows)) refl

pub enter-requires-clause-few : goal.enter-requires-clause-few
enter-requires-clause-few c = subst (λ l. length l < 32768) (sym (c.grow.ensures.rows ∙ c.in_ok-graph.ensures.rows)) (omega arith)

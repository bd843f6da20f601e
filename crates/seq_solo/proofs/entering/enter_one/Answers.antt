use Rattle.std.proofs.Common.{◌≡◌, ◌<◌, ◌∷◌, ◌++◌, [], length, sym, ap, subst, arith}
use Rattle.std.specs.Prelude.{false}
use Rattle.seq_theory.specs.Graph.{is_entered}
use Rattle.seq_theory.specs.Rows.{groups_of, no_value}
use Rattle.seq_inst.specs.Instances.{problem_of}
use Rattle.seq_inst.specs.Members.{members}
use Rattle.seq_core.specs.RowsOf.{rows_of as rows_from}
use Rattle.seq_graph.specs.Known.{AreSound, Narrows}
use Rattle.seq_solo.proofs.entering.enter_one.Goals as goal

pub enter-requires-clause-new : goal.enter-requires-clause-new
enter-requires-clause-new c = subst (λ l. is_entered (groups_of (rows_from l)) (members c.args.group.now) ≡ false) (sym c.grow.ensures.rows) c.requires.new

pub enter-requires-clause-few : goal.enter-requires-clause-few
enter-requires-clause-few c = subst (λ l. length l < 32768) (sym c.grow.ensures.rows) c.requires.few

pub returns-clause-narrows : goal.returns-clause-narrows
returns-clause-narrows c = subst (λ l. Narrows (l ++ record { group = c.args.group.now; low = 0; up = no_value } ∷ []) c.enter.new.graph.rows.items) c.grow.ensures.rows c.enter.ensures.narrows

pub returns-clause-sound : goal.returns-clause-sound
returns-clause-sound c = λ sound. c.enter.ensures.sound (subst (AreSound (problem_of c.args.inst.now)) (sym c.grow.ensures.rows) sound)

use Rattle.std.proofs.Common.{◌≡◌, ℕ, ◌<◌, Some}
use Rattle.std.specs.Prelude.{true, false}
use Rattle.seq_theory.specs.Problem.{splits}
use Rattle.seq_theory.specs.Graph.{val, is_value, step_value}
use Rattle.seq_inst.specs.Members.{members}
use Rattle.seq_inst.specs.Instances.{problem_of}
use Rattle.seq_core.specs.Settled.{groups_in}
use Rattle.seq_finish.proofs.strategy.value_test.Given as goal

abbrev pub invariant-loop-test : goal.invariant-loop-test
invariant-loop-test l = (u : ℕ) → u < l.test → splits (problem_of l.inst) (members l.group) u ≡ true → is_value (step_value (problem_of l.inst) (val (problem_of l.inst) (groups_in l.rows)) (members l.group) u) (Some l.value) ≡ false

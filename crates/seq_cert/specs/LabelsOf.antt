-- Labels of an instance.
use Rattle.std.specs.Prelude.{◌≡◌, ℕ, ◌<◌, filter, length, sum_by, slice_index_or, []}
use Rattle.std.specs.List.{All}
use Rattle.seq_theory.specs.Problem.{Problem}
use Rattle.sig_lines.specs.declared.labels.StateLabel.{StateLabel}
use Rattle.sig_lines.specs.declared.labels.TestLabel.{TestLabel}
use Rattle.sig_lines.specs.declared.labels.Labels.{Labels}
use Rattle.seq_cert.specs.OutcomeReport.{is_of}

-- stands for a test that isn't there
abbrev pub no_test : TestLabel
no_test = record { cost = 0; label = [] }

-- each state is in a class that is there, each class weighs what its states weigh, and the tests have their costs in order
pub record AreLabelsOf (p : Problem) (labels : Labels) : Type 0 where
  pub classes : All (λ (s : StateLabel). s.class < p.classes) labels.states
  pub weights : (k : ℕ) → k < p.classes → sum_by (λ (s : StateLabel). s.weight) (filter (is_of k) labels.states) ≡ p.weight k
  pub tests : length labels.tests ≡ p.tests
  pub costs : (t : ℕ) → t < p.tests → (slice_index_or labels.tests t no_test).cost ≡ p.cost t

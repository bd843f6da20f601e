-- A model that is ready to be solved, or to have a certificate checked against it.
use Rattle.std.specs.Prelude.{◌≡◌, ℕ, ◌≤◌, List, length}
use Rattle.seq_theory.specs.States.{IsOfClasses, firsts, problem_of_classes}
use Rattle.seq_inst.specs.Instances.{problem_of}
use Rattle.sig_matrix.specs.declared.matrix.Matrix.{Matrix}
use Rattle.sig_matrix.specs.Detection.{system_of}
use Rattle.sig_classes.specs.Labels.{labels_from}
use Rattle.teams_run.specs.declared.preparing.Prepared.{Prepared}

-- the instance is that of the matrix's ambiguity groups, of which there are at most 512, with their one problem, and the
-- labels are the matrix's
pub record IsPrepared (matrix : Matrix) (mode : List ℕ) (prepared : Prepared) : Type 0 where
  pub few : length (firsts (system_of matrix)) ≤ 512
  pub classes : IsOfClasses (system_of matrix) (problem_of prepared.inst)
  pub problem : problem_of prepared.inst ≡ problem_of_classes (system_of matrix)
  pub labels : prepared.labels ≡ labels_from matrix mode

-- The figures of a flat model and its matrix: each is a sum or a list over faults, tests, ambiguity groups or nodes.
use Rattle.std.specs.Prelude.{◌≡◌, ℕ, ◌<◌, length, All, Option}
use Rattle.seq_theory.specs.States.{firsts}
use Rattle.sig_flat.specs.declared.flat.Flat.{Flat}
use Rattle.sig_matrix.specs.declared.matrix.Matrix.{Matrix}
use Rattle.sig_matrix.specs.Detection.{system_of}
use Rattle.sig_figures.specs.declared.summary.Figures.{Figures}
use Rattle.sig_figures.specs.declared.summary.EqualTest.{EqualTest}
use Rattle.sig_figures.specs.Coverage.{all_faults, seen_faults, unseen_faults, weight_together, blind_tests}
use Rattle.sig_figures.specs.Columns.{tests_alike}
use Rattle.sig_figures.specs.Sizes.{size_counts}
use Rattle.sig_figures.specs.Loops.{AreLooped}

-- the figures, one by one; loops are looked for in the mode, or in all modes where none is named
pub record AreFigures (flat : Flat) (mode : Option ℕ) (matrix : Matrix) (figures : Figures) : Type 0 where
  pub faults : figures.faults ≡ length matrix.faults
  pub tests : figures.tests ≡ length matrix.tests
  pub fault_weight : figures.fault_weight ≡ weight_together matrix (all_faults matrix)
  pub detected_weight : figures.detected_weight ≡ weight_together matrix (seen_faults matrix)
  pub classes : figures.classes ≡ length (firsts (system_of matrix))
  pub sizes : figures.sizes ≡ size_counts matrix
  pub undetected : figures.undetected ≡ unseen_faults matrix
  pub blind : figures.blind ≡ blind_tests matrix
  pub equal : figures.equal ≡ tests_alike matrix
  pub looped : AreLooped flat mode figures.looped

-- both tests of a pair are there
abbrev pub IsPairOf : Matrix → EqualTest → Type 0
IsPairOf matrix pair = (pair.test < length matrix.tests) × (pair.first < length matrix.tests)

-- each fault and test that the figures name is one of the matrix, and each node one of the flat model
pub record AreNamed (flat : Flat) (matrix : Matrix) (figures : Figures) : Type 0 where
  pub undetected : All (λ fault. fault < length matrix.faults) figures.undetected
  pub blind : All (λ test. test < length matrix.tests) figures.blind
  pub equal : All (IsPairOf matrix) figures.equal
  pub looped : All (λ node. node < length flat.nodes) figures.looped

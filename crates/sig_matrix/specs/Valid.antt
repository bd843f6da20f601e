-- When a matrix is valid.
use Rattle.std.specs.Prelude.{◌≡◌, ℕ, ◌<◌, ◌≤◌, false, length, slice_index_or}
use Rattle.sig_matrix.specs.declared.matrix.Matrix.{Matrix}
use Rattle.sig_matrix.specs.Detection.{detects, state_count, no_row, no_label}

-- there is a state, and at most one more than faults may be; faults, tests, weights and costs are within their limits; no row has a bit past the tests
pub record IsValid (m : Matrix) : Type 0 where
  pub some : 1 ≤ state_count m
  pub many : state_count m ≤ 4097
  pub good : m.good ≤ 1000000
  pub faults : length m.faults ≤ 4096
  pub tests : length m.tests ≤ 256
  pub weights : (f : ℕ) → f < length m.faults → (1 ≤ (slice_index_or m.faults f no_row).weight) × ((slice_index_or m.faults f no_row).weight ≤ 1000000)
  pub costs : (t : ℕ) → t < length m.tests → (1 ≤ (slice_index_or m.tests t no_label).cost) × ((slice_index_or m.tests t no_label).cost ≤ 1000000)
  pub nothing_else : (f t : ℕ) → f < length m.faults → length m.tests ≤ t → t < 256 → detects m f t ≡ false

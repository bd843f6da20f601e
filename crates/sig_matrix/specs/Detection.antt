-- Which test detects which fault, the matrix that says it, and the states with their rows.
--
-- Detection is said over the flat model, by the existence of paths. A matrix is right for a flat model where each of its
-- bits says whether the fault is detected. States and rows are then read off the matrix alone: the state of no fault, if it
-- has a weight, comes first, and the faults follow.
use Rattle.std.specs.Prelude.{◌≡◌, ℕ, ◌+◌, ◌-◌, ◌/◌, ◌%◌, ◌^◌, ◌<◌, ◌≤◌, ◌↔◌, nat_eq, nat_lt, not, ◌&&◌, Bool, true, false, cond, codes, List, [], filter, length, replicate, slice_index, slice_index_or, Option, Some, None}
use Rattle.std.specs.Bool.{MatchBool}
use Rattle.std.specs.List.{AllZip}
use Rattle.sig_types.specs.Sets.{has_bit}
use Rattle.sig_flat.specs.declared.flat.Flat.{Flat}
use Rattle.sig_flat.specs.declared.flat.Fault.{Fault}
use Rattle.sig_flat.specs.declared.flat.FlatTest.{FlatTest}
use Rattle.sig_reach.specs.Paths.{HasSignalPath, HasFreePath}
use Rattle.sig_matrix.specs.declared.matrix.Matrix.{Matrix}
use Rattle.sig_matrix.specs.declared.matrix.FaultRow.{FaultRow}
use Rattle.sig_lines.specs.declared.labels.TestLabel.{TestLabel}
use Rattle.seq_theory.specs.States.{System}

-- some signal of the fault and of the test has a path from the fault to the test, in the test's mode
abbrev pub SeesSignal : Flat → Fault → FlatTest → Type 0
SeesSignal flat fault test = (signal : ℕ) × (has_bit fault.signals.0 signal ≡ true) × (has_bit test.signals.0 signal ≡ true) × HasSignalPath flat test.mode signal fault.node test.node

-- a general fault is detected along free paths, a functional one by its signals
abbrev pub Detects : Flat → Fault → FlatTest → Type 0
Detects flat fault test = MatchBool fault.general (HasFreePath flat test.mode fault.node test.node) (SeesSignal flat fault test)

-- whether a test is taken: each one where no mode is named, else those of the mode
abbrev pub is_taken : Option ℕ → FlatTest → Bool
is_taken None test = true
is_taken (Some mode) test = nat_eq test.mode mode

-- the tests that are taken, in order
abbrev pub taken : Option ℕ → List FlatTest → List FlatTest
taken mode tests = filter (is_taken mode) tests

-- what stands past the last row
abbrev pub no_row : FaultRow
no_row = record { weight = 0; label = []; row = [] }

-- whether the test's bit is set in a row of four words
abbrev pub in_row : List ℕ → ℕ → Bool
in_row row test = has_bit (slice_index row (test / 64)) (test % 64)

-- four words of 64 bits
pub record AreFourWords (row : List ℕ) : Type 0 where
  pub four : length row ≡ 4
  pub words : (k : ℕ) → k < 4 → slice_index row k < 2 ^ 64

-- whether the matrix has the fault detected by the test
abbrev pub detects : Matrix → ℕ → ℕ → Bool
detects matrix fault test = in_row (slice_index_or matrix.faults fault no_row).row test

-- what stands past the last fault, and past the last test
abbrev pub no_fault : Fault
no_fault = record { node = 0; general = false; signals = record { 0 = 0 }; weight = 0; label = [] }

abbrev pub no_test : FlatTest
no_test = record { node = 0; cost = 0; signals = record { 0 = 0 }; mode = 0; label = [] }

-- the fault of a flat model by its number, and the test of a list
abbrev pub fault_at : Flat → ℕ → Fault
fault_at flat f = slice_index_or flat.faults f no_fault

abbrev pub test_at : List FlatTest → ℕ → FlatTest
test_at tests t = slice_index_or tests t no_test

-- the row is the fault's, by its weight and label
pub record IsRowOf (fault : Fault) (row : FaultRow) : Type 0 where
  pub weight : row.weight ≡ fault.weight
  pub label : row.label ≡ fault.label

-- the column is the test's, by its cost and label
pub record IsLabelOf (test : FlatTest) (column : TestLabel) : Type 0 where
  pub cost : column.cost ≡ test.cost
  pub label : column.label ≡ test.label

-- the matrix of a flat model, with all its tests or those of one mode
pub record IsMatrixOf (flat : Flat) (mode : Option ℕ) (matrix : Matrix) : Type 0 where
  pub good : matrix.good ≡ flat.good
  pub faults : AllZip IsRowOf flat.faults matrix.faults
  pub tests : AllZip IsLabelOf (taken mode flat.tests) matrix.tests
  pub detected : (f t : ℕ) → f < length flat.faults → t < length matrix.tests → (detects matrix f t ≡ true) ↔ Detects flat (fault_at flat f) (test_at (taken mode flat.tests) t)
  pub nothing_else : (f t : ℕ) → f < length flat.faults → length matrix.tests ≤ t → t < 256 → detects matrix f t ≡ false
  pub words : (f : ℕ) → f < length flat.faults → AreFourWords (slice_index_or matrix.faults f no_row).row

-- how many states come before the faults: one, without a fault, where it has a weight
abbrev pub before_faults : Matrix → ℕ
before_faults matrix = cond (nat_eq matrix.good 0) 0 1

-- how many states there are
abbrev pub state_count : Matrix → ℕ
state_count matrix = before_faults matrix + length matrix.faults

-- whether the test fails in the state: never without a fault
abbrev pub fails : Matrix → ℕ → ℕ → Bool
fails matrix s t = not (nat_lt s (before_faults matrix)) && detects matrix (s - before_faults matrix) t

-- the fault that is present in the state, if there is one
abbrev pub state_fault : Matrix → ℕ → Option FaultRow
state_fault matrix s = cond (nat_lt s (before_faults matrix)) None (Some (slice_index_or matrix.faults (s - before_faults matrix) no_row))

-- the weight of a state
abbrev pub state_weight : Matrix → ℕ → ℕ
state_weight matrix s = cond (nat_lt s (before_faults matrix)) matrix.good (slice_index_or matrix.faults (s - before_faults matrix) no_row).weight

-- what a state is called: `good` without a fault, and else its fault's label
abbrev pub state_name : Matrix → ℕ → List ℕ
state_name matrix s = cond (nat_lt s (before_faults matrix)) (codes "good") (slice_index_or matrix.faults (s - before_faults matrix) no_row).label

-- the row of a state, as words of 64 tests: zeros without a fault
abbrev pub state_row : Matrix → ℕ → List ℕ
state_row matrix s = cond (nat_lt s (before_faults matrix)) (replicate {A = ℕ} 4 0) (slice_index_or matrix.faults (s - before_faults matrix) no_row).row

-- what stands past the last column
abbrev pub no_label : TestLabel
no_label = record { cost = 0; label = [] }

-- the system under test
abbrev pub system_of : Matrix → System
system_of matrix = record {
  states = state_count matrix;
  tests = length matrix.tests;
  weight = state_weight matrix;
  cost = λ t. (slice_index_or matrix.tests t no_label).cost;
  fails = fails matrix;
}

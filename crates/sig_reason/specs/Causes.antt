-- What the findings say of each test and of each fault alone, as rows of tests.
use Rattle.std.specs.Prelude.{◌≡◌, ◌⊎◌, ℕ, ◌<◌, Bool, true, false, ◌&&◌, List, [], length, slice_index_or, Contains}
use Rattle.sig_matrix.specs.declared.matrix.Matrix.{Matrix}
use Rattle.sig_matrix.specs.Detection.{in_row, no_row}
use Rattle.sig_reason.specs.declared.found.Finding.{Finding}
use Rattle.sig_reason.specs.declared.causes.Standing.{Standing}

-- the row has the tests that failed, or passed, as is asked
pub record TellsTests (findings : List Finding) (failed : Bool) (row : List ℕ) : Type 0 where
  pub told : (t : ℕ) → t < 256 → in_row row t ≡ true → Contains findings (record { test = t; failed = failed })
  pub all : (x : Finding) → Contains findings x → x.failed ≡ failed → in_row row x.test ≡ true

-- a row gains a finding's test where it failed, or passed, as is asked
pub record AddsFinding (old : List ℕ) (x : Finding) (failed : Bool) (new : List ℕ) : Type 0 where
  pub there : x.failed ≡ failed → in_row new x.test ≡ true
  pub kept : (t : ℕ) → in_row old t ≡ true → in_row new t ≡ true
  pub told : (t : ℕ) → in_row new t ≡ true → (in_row old t ≡ true) ⊎ ((x.test ≡ t) × (x.failed ≡ failed))

-- what the tests that passed and failed say of the fault with this row
pub record IsStanding (row passed failed : List ℕ) (s : Standing) : Type 0 where
  pub clear : s.clear ≡ true → (t : ℕ) → t < 256 → in_row row t ≡ true → in_row passed t ≡ false
  pub cleared : s.clear ≡ false → (t : ℕ) × (t < 256) × (in_row row t ≡ true) × (in_row passed t ≡ true)
  pub causes : (t : ℕ) → t < 256 → in_row s.causes t ≡ (s.clear && (in_row row t && in_row failed t))

-- what stands past the last fault
abbrev pub no_standing : Standing
no_standing = record { clear = false; causes = [] }

-- what they say of each of the first n faults
pub record AreStandings (matrix : Matrix) (passed failed : List ℕ) (standings : List Standing) : Type 0 where
  pub long : length standings ≡ length matrix.faults
  pub each : (f : ℕ) → f < length matrix.faults → IsStanding (slice_index_or matrix.faults f no_row).row passed failed (slice_index_or standings f no_standing)

-- whether the fault is a cause of the test
abbrev pub is_cause_in : List Standing → ℕ → ℕ → Bool
is_cause_in standings f t = in_row (slice_index_or standings f no_standing).causes t

-- Rows of bits that are filled in, test by test.
use Rattle.std.specs.Prelude.{◌≡◌, ◌≢◌, ◌⊎◌, ◌↔◌, ℕ, ◌<◌, ◌≤◌, nat_lt, Bool, true, false, List, [], length, slice_index_or}
use Rattle.sig_flat.specs.declared.flat.Flat.{Flat}
use Rattle.sig_flat.specs.declared.flat.FlatTest.{FlatTest}
use Rattle.sig_reach.specs.Marks.{is_marked}
use Rattle.sig_matrix.specs.Detection.{Detects, in_row, fault_at, test_at}

-- whether the fault's row has the test's bit
abbrev pub is_set : List (List ℕ) → ℕ → ℕ → Bool
is_set rows f t = in_row (slice_index_or rows f []) t

-- the bit of one test is set, and no other bit of the row changes
pub record IsSetIn (test : ℕ) (old new : List ℕ) : Type 0 where
  pub there : in_row new test ≡ true
  pub others : (t : ℕ) → t ≢ test → in_row new t ≡ in_row old t

-- one test's bit is set in the rows of the faults that it detects, and no other bit changes
pub record IsTestAdded (flat : Flat) (test : FlatTest) (column : ℕ) (old new : List (List ℕ)) : Type 0 where
  pub detected : (f : ℕ) → f < length flat.faults → Detects flat (fault_at flat f) test → is_set new f column ≡ true
  pub only : (f : ℕ) → f < length flat.faults → is_set new f column ≡ true → (is_set old f column ≡ true) ⊎ Detects flat (fault_at flat f) test
  pub others : (f t : ℕ) → t ≢ column → is_set new f t ≡ is_set old f t

-- the rows of all faults, filled for those of the tests that are done; every other bit is clear
pub record AreRows (flat : Flat) (tests : List FlatTest) (is_done : ℕ → Bool) (rows : List (List ℕ)) : Type 0 where
  pub long : length rows ≡ length flat.faults
  pub filled : (f t : ℕ) → f < length flat.faults → t < length tests → is_done t ≡ true → (is_set rows f t ≡ true) ↔ Detects flat (fault_at flat f) (test_at tests t)
  pub clear : (f t : ℕ) → f < length flat.faults → t < length tests → is_done t ≡ false → is_set rows f t ≡ false
  pub past : (f t : ℕ) → f < length flat.faults → length tests ≤ t → t < 256 → is_set rows f t ≡ false

-- whether the test's mode is an earlier one
abbrev pub is_before : List FlatTest → ℕ → ℕ → Bool
is_before tests mode t = nat_lt (test_at tests t).mode mode

-- a test with the number that is made in the mode has its node marked
abbrev pub IsWanted : Flat → ℕ → List Bool → ℕ → Type 0
IsWanted flat mode wanted n = (test_at flat.tests n).mode ≡ mode → is_marked wanted (test_at flat.tests n).node ≡ true

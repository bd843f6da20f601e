-- Sets of tests as rows of four words.
use Rattle.std.specs.Prelude.{◌≡◌, ℕ, ◌<◌, ◌≤◌, Bool, true, false, List}
use Rattle.sig_matrix.specs.Detection.{in_row}

-- the row has just the tests that pass
pub record HasJust (row : List ℕ) (p : ℕ → Bool) : Type 0 where
  pub tests : (t : ℕ) → t < 256 → in_row row t ≡ p t

-- no test is in the row
pub record IsEmpty (row : List ℕ) : Type 0 where
  pub none : (t : ℕ) → t < 256 → in_row row t ≡ false

-- some test is in the row
pub record HasSome (row : List ℕ) : Type 0 where
  pub test : ℕ
  pub small : test < 256
  pub there : in_row row test ≡ true

-- the lowest test that is in the row
pub record IsFirst (row : List ℕ) (test : ℕ) : Type 0 where
  pub small : test < 256
  pub there : in_row row test ≡ true
  pub lowest : (t : ℕ) → t < test → in_row row t ≡ false

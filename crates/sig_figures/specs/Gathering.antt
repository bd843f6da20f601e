-- Rows of bits that gather, over rows, in which tests some row isn't alike.
use Rattle.std.specs.Prelude.{◌≡◌, ℕ, ◌<◌, ◌||◌, Bool, not, List}
use Rattle.sig_types.specs.Sets.{has_bit}
use Rattle.seq_theory.specs.States.{same}
use Rattle.sig_matrix.specs.Detection.{in_row}

-- a word gains the bits in which the other isn't alike
pub record AddsBits (old other : ℕ) (alike : Bool) (new : ℕ) : Type 0 where
  pub bits : (bit : ℕ) → bit < 64 → has_bit new bit ≡ (has_bit old bit || not (same (has_bit other bit) alike))

-- a row gains the tests in which the other isn't alike
pub record AddsTests (old other : List ℕ) (alike : Bool) (new : List ℕ) : Type 0 where
  pub tests : (test : ℕ) → test < 256 → in_row new test ≡ (in_row old test || not (same (in_row other test) alike))

-- The rows of closed words.
use Rattle.std.specs.Prelude.{◌≡◌, ◌≢◌, ℕ, ◌<◌, ◌≤◌, List, length, slice_index}
use Rattle.seq_inst.specs.declared.outcome.Row.{Row}
use Rattle.seq_core.specs.Settled.{row_at}
use Rattle.seq_words.specs.declared.view.View.{View}
use Rattle.seq_words.specs.Layout.{state_at, core_of}
use Rattle.seq_words.specs.Knowledge.{known, IsThere, low_seen, up_seen}
use Rattle.seq_words.specs.Seats.{Wording}

-- which words were closed, and the rows of the published places
pub record Ending : Type 0 where
  pub words : Wording
  pub rows : List Row

-- the rows of the first places, all of them published
pub record IsCoreTo (words : List ℕ) (n : ℕ) (rows : List Row) : Type 0 where
  pub is : rows ≡ core_of words n
  pub published : (place : ℕ) → place < n → slice_index words (state_at place) ≡ 1

-- the rows of all published places
pub record IsCore (words : List ℕ) (limit : ℕ) (rows : List Row) : Type 0 where
  pub count : ℕ
  pub within : count ≤ limit
  pub is : rows ≡ core_of words count
  pub published : (place : ℕ) → place < count → slice_index words (state_at place) ≡ 1
  pub last : count < limit → slice_index words (state_at count) ≢ 1

-- a place that a view knew has a row: of the group that it knew, if it did, with a low that is no lower than the one seen and
-- an up that is no higher
pub record IsTrueAt (v : View) (rows : List Row) (place : ℕ) : Type 0 where
  pub there : place < length rows
  pub group : length (known v place).bits ≡ 8 → (row_at rows place).group.0 ≡ (known v place).bits
  pub low : low_seen place v ≤ (row_at rows place).low
  pub up : (row_at rows place).up ≤ up_seen place v

-- what a view knew is true of the rows
abbrev pub AreOf : View → List Row → Type 0
AreOf v rows = (place : ℕ) → IsThere place v → IsTrueAt v rows place

-- What a shelf in memory holds, and what its calls change.
use Rattle.std.specs.Prelude.{◌≡◌, ◌≢◌, ◌-◌, ◌^◌, ℕ, List, Option, Some, None, Contains, length, drop, min}
use Rattle.sig_edge.specs.Causes.{one_more}
use Rattle.sig_edge.specs.Files.{found}
use Rattle.sig_edge.specs.declared.memory_shelf.MemShelf.{MemShelf}

-- the bytes that are held under a name, of a shelf in memory
abbrev pub content_of : MemShelf → List ℕ → Option (List ℕ)
content_of shelf name = found shelf.files.items name

-- how many of its calls failed
abbrev pub shelf_faults : MemShelf → ℕ
shelf_faults shelf = shelf.faults

-- how many of its calls asked for a name that isn't held
abbrev pub shelf_misses : MemShelf → ℕ
shelf_misses shelf = shelf.misses

-- how many times it was read, faults among them
abbrev pub shelf_calls : MemShelf → ℕ
shelf_calls shelf = shelf.calls

-- the numbers of the calls, from 1, that are to fail
abbrev pub shelf_failing : MemShelf → List ℕ
shelf_failing shelf = shelf.fail.items

-- how many bytes it gives at a call, at the most
abbrev pub most_given : MemShelf → ℕ
most_given shelf = shelf.most

-- the number of its next call is among those that are to fail
abbrev pub FailsNext : MemShelf → Type 0
FailsNext shelf = Contains (shelf_failing shelf) (one_more (shelf_calls shelf))

-- a read from `at` on gives as many bytes as the file still has and the buffer takes, and never more than `most`
abbrev pub FillsFrom : Option (List ℕ) → ℕ → ℕ → List ℕ → ℕ → Type 0
FillsFrom None most at into n = ⊥
FillsFrom (Some bytes) most at into n = n ≡ min most (min (length into) (length (drop at bytes)))

-- the shelf holds nothing, was never read, gives at a call as much as any buffer takes, and is to fail at these calls
pub record IsNewShelf (shelf : MemShelf) (fail : List ℕ) : Type 0 where
  pub holds : (name : List ℕ) → content_of shelf name ≡ None
  pub faults : shelf_faults shelf ≡ 0
  pub misses : shelf_misses shelf ≡ 0
  pub calls : shelf_calls shelf ≡ 0
  pub most : most_given shelf ≡ 2 ^ 64 - 1
  pub failing : shelf_failing shelf ≡ fail

-- the counts and the calls that are to fail are as before
pub record KeepsCounts (old new : MemShelf) : Type 0 where
  pub faults : shelf_faults new ≡ shelf_faults old
  pub misses : shelf_misses new ≡ shelf_misses old
  pub calls : shelf_calls new ≡ shelf_calls old
  pub failing : shelf_failing new ≡ shelf_failing old

-- the name is held with these bytes, and every other name as before
pub record AddsFile (old new : MemShelf) (name bytes : List ℕ) : Type 0 where
  pub added : content_of new name ≡ Some bytes
  pub others : (other : List ℕ) → other ≢ name → content_of new other ≡ content_of old other

-- it gives at most so many bytes at a call, and is else as before
pub record GivesPieces (old new : MemShelf) (limit : ℕ) : Type 0 where
  pub most : most_given new ≡ limit
  pub holds : (name : List ℕ) → content_of new name ≡ content_of old name
  pub counts : KeepsCounts old new

-- a call was counted, and nothing else has changed
abbrev pub read_once : MemShelf → MemShelf
read_once shelf = record shelf { calls = one_more shelf.calls }

-- a call and a fault were counted, and nothing else has changed
abbrev pub failed_once : MemShelf → MemShelf
failed_once shelf = record shelf { calls = one_more shelf.calls; faults = one_more shelf.faults }

-- a call and a miss were counted, and nothing else has changed
abbrev pub missed_once : MemShelf → MemShelf
missed_once shelf = record shelf { calls = one_more shelf.calls; misses = one_more shelf.misses }

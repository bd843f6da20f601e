-- The scribe and the index, which agree: the index has exactly the groups that the scribe published, with their places.
use Rattle.std.specs.Prelude.{◌≡◌, ℕ, ◌≤◌, ◌<◌, List, Some, length}
use Rattle.seq_core.specs.Mapping.{Mapping, place_of}
use Rattle.seq_words.specs.Knowledge.{IsKnown, group_at}
use Rattle.seq_words.specs.Seats.{Wording, Sitting, IsOf, HasPlaces}

-- the scribe is one of these words, and has published as many places as the index has groups, for as many as there are words
-- there is room; each of these places is known with its group, which has it in the index; and the index has no other group
pub record Agreed (words : Wording) (scribe : Sitting) (index : Mapping) : Type 0 where
  pub of : IsOf words scribe
  pub room : words.limit ≤ index.room
  pub within : length index.placed ≤ words.limit
  pub count : HasPlaces (length index.placed) scribe.view
  pub knows : (place : ℕ) → place < length index.placed → IsKnown place scribe.view
  pub has : (place : ℕ) → place < length index.placed → place_of index.placed (group_at place scribe.view) ≡ Some place
  pub only : (group : List ℕ) (place : ℕ) → place_of index.placed group ≡ Some place → (place < length index.placed) × (group_at place scribe.view ≡ group)

-- what contracts see of the scribe and the index behind a lock
pub record Standing : Type 0 where
  pub scribe : Sitting
  pub index : Mapping

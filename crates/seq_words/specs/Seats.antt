-- What contracts see of words and seats.
use Rattle.std.specs.Prelude.{◌≡◌, ◌≢◌, ℕ, ◌≤◌, ◌<◌, true, false, List, length, slice_index}
use Rattle.atomic_table.specs.Seated.{TableId}
use Rattle.seq_theory.specs.Graph.{IsReal}
use Rattle.seq_inst.specs.declared.group.Group.{Group}
use Rattle.seq_inst.specs.Members.{members}
use Rattle.seq_core.specs.Words.{classes_of}
use Rattle.seq_words.specs.declared.view.Told.{Told}
use Rattle.seq_words.specs.declared.view.View.{View}
use Rattle.seq_words.specs.declared.view.Role.TheVariants.{Scribe}
use Rattle.seq_words.specs.declared.view.Seen.{Seen}
use Rattle.seq_words.specs.declared.view.Seen.TheVariants.{Free, There}
use Rattle.seq_words.specs.Knowledge.{problem_in, known, IsKnown, group_at, low_seen, up_seen, IsLow, IsUp}
use Rattle.seq_words.specs.Plays.{hears, hears_bits, knows_bits, hears_low, hears_up, finds_free}

-- which words, of which instance, for how many groups
pub record Wording : Type 0 where
  pub table : TableId
  pub told : Told
  pub limit : ℕ

-- of which words a seat is, and what its view is
pub record Sitting : Type 0 where
  pub table : TableId
  pub view : View

-- the seat with another view
abbrev pub sees : Sitting → View → Sitting
sees seat v = record { table = seat.table; view = v }

-- a seat of these words
pub record IsOf (words : Wording) (seat : Sitting) : Type 0 where
  pub table : seat.table ≡ words.table
  pub told : seat.view.told ≡ words.told
  pub limit : seat.view.limit ≡ words.limit
  pub sized : length seat.view.known ≡ words.limit

-- it is a scribe's view, and so many places are published, which it knows
abbrev pub HasPlaces : ℕ → View → Type 0
HasPlaces n v = v.role ≡ Scribe n

-- the scribe may publish the group at the place: the place is how many it knows, and below the limit; the group is real, and
-- none of those that it knows
pub record MayPublish (v : View) (place : ℕ) (group : Group) : Type 0 where
  pub next : HasPlaces place v
  pub room : place < v.limit
  pub real : IsReal (problem_in v.told) (members group)
  pub new : (other : ℕ) → other < place → classes_of (known v other).bits ≢ members group

-- a word of bits that was known, or the next one
pub record ReadsBits (place part found : ℕ) (before after : Sitting) : Type 0 where
  pub few : length (known before.view place).bits ≤ 8
  pub old : part < length (known before.view place).bits → (after ≡ before) × (found ≡ slice_index (known before.view place).bits part)
  pub next : part ≡ length (known before.view place).bits → after ≡ sees before (hears_bits place found before.view)

-- what a look at a published place tells: its group, which is the one that was known if one was; a low and an up not behind those
-- that were seen, with the group's least cost between them. The view then has these
pub record LookedAt (place : ℕ) (before after : Sitting) (group : Group) (low up : ℕ) : Type 0 where
  pub learns : after ≡ sees before (hears_up place up (hears_low place low (knows_bits place group.0 (hears place before.view))))
  pub whole : length group.0 ≡ 8
  pub same : length (known before.view place).bits ≡ 8 → group.0 ≡ (known before.view place).bits
  pub low_kept : low_seen place before.view ≤ low
  pub up_kept : up ≤ up_seen place before.view
  pub low_right : IsLow before.view.told group.0 low
  pub up_right : IsUp before.view.told group.0 up

-- and at any place: it is free, a further free find, and was not known; or it is published
abbrev pub Looked : ℕ → Sitting → Sitting → Seen → Type 0
Looked place before after Free = (after ≡ sees before (finds_free place before.view)) × ((known before.view place).there ≡ false)
Looked place before after (There group low up) = LookedAt place before after group low up

-- a view knows the place with this group, and these are the low and the up that it has seen there
pub record IsSeenAs (place : ℕ) (v : View) (group : Group) (low up : ℕ) : Type 0 where
  pub whole : IsKnown place v
  pub bits : (known v place).bits ≡ group.0
  pub classes : group_at place v ≡ members group
  pub low_is : low_seen place v ≡ low
  pub up_is : up_seen place v ≡ up

-- the view knows a published place as a look answered it
abbrev pub IsSeen : ℕ → View → Seen → Type 0
IsSeen place v Free = Unit {0}
IsSeen place v (There group low up) = IsSeenAs place v group low up

-- the group that a look answered is real
abbrev pub IsRealSeen : Told → Seen → Type 0
IsRealSeen told Free = Unit {0}
IsRealSeen told (There group low up) = IsReal (problem_in told) (members group)

-- after so many words of bits of a place were read
pub record Reading (words : Wording) (first : Sitting) (place : ℕ) (seat : Sitting) (bits : List ℕ) (part : ℕ) : Type 0 where
  pub of : IsOf words seat
  pub is : seat ≡ sees first (knows_bits place (known seat.view place).bits first.view)
  pub there : (known seat.view place).there ≡ true
  pub far : part ≤ length (known seat.view place).bits
  pub few : 0 < part → length (known seat.view place).bits ≤ 8
  pub reads : (i : ℕ) → i < part → slice_index bits i ≡ slice_index (known seat.view place).bits i
  pub whole : length (known first.view place).bits ≡ 8 → (known seat.view place).bits ≡ (known first.view place).bits

-- Where a walk over a group stands.
use Rattle.std.specs.Prelude.{◌≡◌, ℕ, ◌+◌, ◌*◌, ◌<◌, ◌≤◌, slice_index, Option, Some, None}
use Rattle.std.specs.Int.{bit_at}
use Rattle.seq_inst.specs.declared.group.Group.{Group}
use Rattle.seq_inst.specs.declared.ahead.Ahead.{Ahead}
use Rattle.seq_inst.specs.Members.{IsFirstFrom}

-- the classes ahead of the walk are those of the group from a number on: the number is in the walk's word or just after it, and
-- the word is that of the group without the classes below the number
pub record IsAhead (g : Group) (a : Ahead) (from : ℕ) : Type 0 where
  pub there : a.place < 8
  pub from_word : 64 * a.place ≤ from
  pub to_word : from ≤ 64 * (a.place + 1)
  pub below : (k : ℕ) → k < 64 → 64 * a.place + k < from → bit_at a.word k ≡ 0
  pub ahead : (k : ℕ) → k < 64 → from ≤ 64 * a.place + k → bit_at a.word k ≡ bit_at (slice_index g.0 a.place) k

-- the class is the first of the group from a number on, and those after it are ahead of the walk
pub record IsNext (g : Group) (a : Ahead) (from class : ℕ) : Type 0 where
  pub first : IsFirstFrom g from class
  pub after : IsAhead g a (class + 1)

-- the classes ahead of the walk are those after the class at which it stands
abbrev pub IsAheadOf : Group → Ahead → Option ℕ → Type 0
IsAheadOf g a None = Unit {0}
IsAheadOf g a (Some c) = IsAhead g a (c + 1)

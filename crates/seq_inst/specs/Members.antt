-- The classes of a group.
use Rattle.std.specs.Prelude.{◌≡◌, ℕ, ◌/◌, ◌%◌, ◌^◌, ◌<◌, ◌≤◌, Bool, true, false, nat_eq, List, length, slice_index, Option, Some, None}
use Rattle.std.specs.Int.{bit_at}
use Rattle.seq_inst.specs.declared.group.Group.{Group}
use Rattle.std.specs.Str.{bytes_eq}
use Rattle.seq_theory.specs.Graph.{same_group}
use Rattle.seq_theory.specs.Below.{passing_below}

-- whether the class is in the group: bit class % 64 of word class / 64
abbrev pub has_class : Group → ℕ → Bool
has_class g c = nat_eq (bit_at (slice_index g.0 (c / 64)) (c % 64)) 1

-- the classes of the group below a number, upwards
abbrev pub members_below : Group → ℕ → List ℕ
members_below g n = passing_below (has_class g) n

-- the classes of the group, upwards
abbrev pub members : Group → List ℕ
members g = members_below g 512

-- the first class of the group from a number on
pub record IsFirstFrom (g : Group) (from c : ℕ) : Type 0 where
  pub from_there : from ≤ c
  pub in_range : c < 512
  pub in_group : has_class g c ≡ true
  pub none_before : (k : ℕ) → from ≤ k → k < c → has_class g k ≡ false

-- the group has no class from a number on
abbrev pub HasNoneFrom : Group → ℕ → Type 0
HasNoneFrom g from = (k : ℕ) → from ≤ k → k < 512 → has_class g k ≡ false

-- eight words of 64 bits, as each group of a program is
pub record IsWords (g : Group) : Type 0 where
  pub eight : length g.0 ≡ 8
  pub each : (k : ℕ) → k < 8 → slice_index g.0 k < 2 ^ 64

-- groups with the same classes have the same words, and a test of the words tells whether the classes are the same
pub record WordsTell (g h : Group) : Type 0 where
  pub same : members g ≡ members h → g.0 ≡ h.0
  pub test : bytes_eq g.0 h.0 ≡ same_group (members g) (members h)

abbrev pub SameWordsHold : Type 0
SameWordsHold = (g h : Group) → IsWords g → IsWords h → WordsTell g h

-- where a walk over the classes of a group stands: at a class, or past the last
abbrev pub reached : Option ℕ → ℕ
reached None = 512
reached (Some c) = c

abbrev pub IsClass : Group → Option ℕ → Type 0
IsClass g None = Unit {0}
IsClass g (Some c) = (c < 512) × (has_class g c ≡ true)

-- the walk has gone on from a number to the next class, or past the last, and has passed over no class
pub record IsStep (g : Group) (from : ℕ) (next : Option ℕ) : Type 0 where
  pub class : IsClass g next
  pub on : from ≤ reached next
  pub before : members_below g (reached next) ≡ members_below g from

-- What a seat's view knows of the places, and what that allows.
use Rattle.std.specs.Prelude.{◌≡◌, ℕ, ◌≤◌, Bool, true, false, cond, ◌&&◌, ◌==◌, List, [], ◌∷◌, length, slice_index_or}
use Rattle.seq_theory.specs.Problem.{Problem}
use Rattle.seq_theory.specs.Tree.{IsLeast}
use Rattle.seq_theory.specs.Graph.{IsReal}
use Rattle.seq_theory.specs.Rows.{no_value, most_low, least_up, groups_of, AreDistinct}
use Rattle.seq_theory.specs.Rows.{Row as TheoryRow}
use Rattle.seq_inst.specs.declared.instance.Instance.{Instance}
use Rattle.seq_inst.specs.Valid.{problem_from}
use Rattle.seq_core.specs.Words.{classes_of}
use Rattle.seq_words.specs.declared.view.Told.{Told}
use Rattle.seq_words.specs.declared.view.Known.{Known}
use Rattle.seq_words.specs.declared.view.View.{View}

-- the lists of an instance, as a view holds them, and the problem that they state
abbrev pub told_of : Instance → Told
told_of inst = record { weights = inst.weights.items; costs = inst.costs.items; passes = inst.passes.items }

abbrev pub problem_in : Told → Problem
problem_in told = problem_from told.weights told.costs told.passes

-- of a place of which nothing is known
abbrev pub unknown : Known
unknown = record { there = false; bits = []; low = 0; up = no_value }

-- what is known of a place
abbrev pub known : View → ℕ → Known
known v place = slice_index_or v.known place unknown

-- what another seat knew of it
abbrev pub heard : View → ℕ → Known
heard v place = slice_index_or v.heard place unknown

abbrev pub low_seen : ℕ → View → ℕ
low_seen place v = (known v place).low

abbrev pub up_seen : ℕ → View → ℕ
up_seen place v = (known v place).up

-- the place is known to be published
abbrev pub IsThere : ℕ → View → Type 0
IsThere place v = (known v place).there ≡ true

-- the place is known with its group: all eight words of its bits are
abbrev pub IsKnown : ℕ → View → Type 0
IsKnown place v = IsThere place v × (length (known v place).bits ≡ 8)

-- the place is known with this group
abbrev pub HasGroup : ℕ → List ℕ → View → Type 0
HasGroup place bits v = IsThere place v × ((known v place).bits ≡ bits) × (length bits ≡ 8)

-- the classes of the group at a known place
abbrev pub group_at : ℕ → View → List ℕ
group_at place v = classes_of (known v place).bits

-- the rows of the places that are known with their groups, with the lows and ups that were seen
abbrev pub is_whole : Known → Bool
is_whole k = k.there && (length k.bits == 8)

abbrev pub seen_row : Known → TheoryRow
seen_row k = record { group = classes_of k.bits; low = k.low; up = k.up }

abbrev pub known_rows : List Known → List TheoryRow
known_rows [] = []
known_rows (k ∷ rest) = cond (is_whole k) (seen_row k ∷ known_rows rest) (known_rows rest)

-- no two places are known with the same group
abbrev pub AreAlone : View → Type 0
AreAlone v = AreDistinct (groups_of (known_rows v.known))

-- the view knows the place with its group, and its rows allow that this is raised, or capped, to a number
pub record MayRaise (v : View) (place to : ℕ) : Type 0 where
  pub there : IsThere place v
  pub whole : length (known v place).bits ≡ 8
  pub allowed : to ≤ most_low (problem_in v.told) (known_rows v.known) (group_at place v)

pub record MayCap (v : View) (place to : ℕ) : Type 0 where
  pub there : IsThere place v
  pub whole : length (known v place).bits ≡ 8
  pub allowed : least_up (problem_in v.told) (known_rows v.known) (group_at place v) ≤ to

-- the number is at most, or at least, what the group of these bits costs at least
abbrev pub IsLow : Told → List ℕ → ℕ → Type 0
IsLow told bits x = (n : ℕ) → IsLeast (problem_in told) (classes_of bits) n → x ≤ n

abbrev pub IsUp : Told → List ℕ → ℕ → Type 0
IsUp told bits x = (n : ℕ) → IsLeast (problem_in told) (classes_of bits) n → n ≤ x

-- the same of the group of a place, where it is known
abbrev pub IsLowAt : ℕ → View → ℕ → Type 0
IsLowAt place v x = length (known v place).bits ≡ 8 → IsLow v.told (known v place).bits x

abbrev pub IsUpAt : ℕ → View → ℕ → Type 0
IsUpAt place v x = length (known v place).bits ≡ 8 → IsUp v.told (known v place).bits x

-- the group of a place is real, where it is known
abbrev pub IsRealAt : ℕ → View → Type 0
IsRealAt place v = length (known v place).bits ≡ 8 → IsReal (problem_in v.told) (group_at place v)

-- the first view knows all that the second knows
pub record CoversAt (v w : View) (place : ℕ) : Type 0 where
  pub there : IsThere place w → IsThere place v
  pub bits : length (known w place).bits ≡ 8 → (known v place).bits ≡ (known w place).bits
  pub low : low_seen place w ≤ low_seen place v
  pub up : up_seen place v ≤ up_seen place w

abbrev pub Covers : View → View → Type 0
Covers v w = (place : ℕ) → CoversAt v w place

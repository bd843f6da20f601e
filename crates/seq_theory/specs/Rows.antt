-- The rows of a search, and the events that change them.
use Rattle.std.specs.Prelude.{◌≡◌, ◌⊎◌, ℕ, ◌-◌, ◌^◌, ◌<◌, ◌≤◌, false, cond, nat_eq, max, min, List, [], ◌∷◌, ◌++◌, length, map, Option, Some, None, slice_get}
use Rattle.std.specs.List.{filter_map}
use Rattle.std.proofs.Common.{zero, suc}
use Rattle.seq_theory.specs.Problem.{Problem, splitting, is_end, least_of}
use Rattle.seq_theory.specs.Bound.{bound, step_sum}
use Rattle.seq_theory.specs.Greedy.{greedy_cost}
use Rattle.seq_theory.specs.Graph.{same_group, is_entered, low, val, step_value, IsReal}

-- a group that was entered, with what is known of its least cost: at least low and at most up
pub record Row : Type 0 where
  pub group : List ℕ
  pub low : ℕ
  pub up : ℕ

-- stands for: no upper bound is known
abbrev pub no_value : ℕ
no_value = 2 ^ 64 - 1

abbrev pub groups_of : List Row → List (List ℕ)
groups_of rows = map (λ r. r.group) rows

-- the row is one of the list
abbrev pub IsRow : Row → List Row → Type 0
IsRow r [] = ⊥
IsRow r (s ∷ rest) = (s ≡ r) ⊎ IsRow r rest

-- no group stands twice
abbrev pub AreDistinct : List (List ℕ) → Type 0
AreDistinct [] = Unit {0}
AreDistinct (g ∷ rest) = (is_entered rest g ≡ false) × AreDistinct rest

-- at most so many distinct real groups, each with a low that its low allows and an up that its value allows
pub record IsSound (p : Problem) (limit : ℕ) (rows : List Row) : Type 0 where
  pub few : length rows ≤ limit
  pub distinct : AreDistinct (groups_of rows)
  pub real : (r : Row) → IsRow r rows → IsReal p r.group
  pub lows : (r : Row) → IsRow r rows → r.low ≤ low p (groups_of rows) r.group
  pub ups : (r : Row) → IsRow r rows → (v : ℕ) → val p (groups_of rows) r.group ≡ Some v → v ≤ r.up

-- the row of a group
abbrev pub row_for : List Row → List ℕ → Option Row
row_for [] group = None
row_for (r ∷ rest) group = cond (same_group group r.group) (Some r) (row_for rest group)

abbrev pub low_or : ℕ → Option Row → ℕ
low_or bound None = bound
low_or bound (Some r) = max r.low bound

-- what a part counts for a low: 0 for one goal, the larger of its row's low and its bound, and the bound of a group
-- without a row
abbrev pub known_low : Problem → List Row → List ℕ → ℕ
known_low p rows group = cond (is_end p group) 0 (low_or (bound p group) (row_for rows group))

abbrev pub up_or : Option Row → Option ℕ
up_or None = None
up_or (Some r) = cond (nat_eq r.up no_value) None (Some r.up)

-- what a part counts for an up: 0 for one goal, and the up of a row that has one
abbrev pub known_up : Problem → List Row → List ℕ → Option ℕ
known_up p rows group = cond (is_end p group) (Some 0) (up_or (row_for rows group))

-- the most to which a group may be raised, and the least to which it may be capped
abbrev pub most_low : Problem → List Row → List ℕ → ℕ
most_low p rows group = max (bound p group) (least_of (map (step_sum p (known_low p rows) group) (splitting p group)))

abbrev pub least_up : Problem → List Row → List ℕ → ℕ
least_up p rows group = least_of (greedy_cost p group ∷ filter_map (step_value p (known_up p rows) group) (splitting p group))

pub data Event : Type 0 where
  enter : (group : List ℕ) → Event
  raise : (place to : ℕ) → Event
  cap : (place to : ℕ) → Event

-- the event is allowed in these rows
abbrev pub IsAllowed : Problem → ℕ → List Row → Event → Type 0
IsAllowed p limit rows (enter group) = IsReal p group × (is_entered (groups_of rows) group ≡ false) × (length rows < limit)
IsAllowed p limit rows (raise place to) = (r : Row) × (slice_get rows place ≡ Some r) × (to ≤ most_low p rows r.group)
IsAllowed p limit rows (cap place to) = (r : Row) × (slice_get rows place ≡ Some r) × (least_up p rows r.group ≤ to)

-- the rows after it
abbrev pub change_at : List Row → ℕ → (Row → Row) → List Row
change_at [] place f = []
change_at (r ∷ rest) zero f = f r ∷ rest
change_at (r ∷ rest) (suc place) f = r ∷ change_at rest place f

abbrev pub after : List Row → Event → List Row
after rows (enter group) = rows ++ record { group = group; low = 0; up = no_value } ∷ []
after rows (raise place to) = change_at rows place (λ r. record { group = r.group; low = max r.low to; up = r.up })
after rows (cap place to) = change_at rows place (λ r. record { group = r.group; low = r.low; up = min r.up to })

-- the rows after a list of events, each of them allowed where it comes
abbrev pub AreAllowed : Problem → ℕ → List Row → List Event → Type 0
AreAllowed p limit rows [] = Unit {0}
AreAllowed p limit rows (e ∷ rest) = IsAllowed p limit rows e × AreAllowed p limit (after rows e) rest

abbrev pub after_all : List Row → List Event → List Row
after_all rows [] = rows
after_all rows (e ∷ rest) = after_all (after rows e) rest

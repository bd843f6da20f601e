-- What each kind of step does to the core of the words, from any state that meets the rule: the event that it stands for, which is
-- allowed there, or nothing.
use Rattle.std.specs.Prelude.{◌≡◌, ◌≢◌, ℕ, ◌+◌, ◌<◌, ◌≤◌, List, max, min, slice_index, slice_set}
use mathlib.Core.Option.{some}
use lib.ListN.{get_elem?}
use Rattle.atomic_table.specs.Table.{State}
use Rattle.seq_theory.specs.Problem.{Problem}
use Rattle.seq_theory.specs.Rows.{no_value, Event, enter, raise, cap, IsAllowed, after, groups_of, IsRow, AreDistinct, most_low, least_up}
use Rattle.seq_theory.specs.Rows.{Row as TheoryRow}
use Rattle.seq_inst.specs.declared.instance.Instance.{Instance}
use Rattle.seq_inst.specs.declared.outcome.Row.{Row}
use Rattle.seq_inst.specs.Instances.{problem_of}
use Rattle.seq_words.specs.declared.view.View.{View}
use Rattle.seq_words.specs.declared.view.Role.TheVariants.{Scribe, Spent}
use Rattle.seq_core.specs.RowsOf.{rows_of}
use Rattle.seq_core.specs.Words.{classes_of}
use Rattle.seq_words.specs.Layout.{bits_at, state_at, low_at, up_at, core_of}
use Rattle.seq_words.specs.Knowledge.{MayRaise, MayCap}
use Rattle.seq_words.specs.Rule.{Kept}

-- the rows become others by an event that is allowed in them
pub record IsPlayed (p : Problem) (limit : ℕ) (rows new : List Row) (event : Event) : Type 0 where
  pub allowed : IsAllowed p limit (rows_of rows) event
  pub after : rows_of new ≡ after (rows_of rows) event

-- a seat has this view in a state that meets the rule
abbrev pub Sees : State (Unit {0}) View → ℕ → View → Type 0
Sees s j v = get_elem? s.views j ≡ some v

-- the state word of a place whose eight words of bits are stored: its group is entered
abbrev pub PublishingEnters : Type 0
PublishingEnters = (inst : Instance) (limit : ℕ) (s : State (Unit {0}) View) (r : Kept inst limit s) (j : ℕ) (v : View) → Sees s j v
    → (place : ℕ) → v.role ≡ Scribe place → v.stored ≡ 8
    → IsPlayed (problem_of inst) limit (core_of s.words r.count) (core_of (slice_set s.words (state_at place) 1) (r.count + 1)) (enter (classes_of v.draft))

-- a low word is raised to what a view allows: so is the row
abbrev pub RaisingRaises : Type 0
RaisingRaises = (inst : Instance) (limit : ℕ) (s : State (Unit {0}) View) (r : Kept inst limit s) (j : ℕ) (v : View) → Sees s j v
    → (place to : ℕ) → v.role ≢ Spent → MayRaise v place to
    → IsPlayed (problem_of inst) limit (core_of s.words r.count) (core_of (slice_set s.words (low_at place) (max (slice_index s.words (low_at place)) to)) r.count) (raise place to)

-- an up word is lowered to what a view allows: the row is capped
abbrev pub LoweringCaps : Type 0
LoweringCaps = (inst : Instance) (limit : ℕ) (s : State (Unit {0}) View) (r : Kept inst limit s) (j : ℕ) (v : View) → Sees s j v
    → (place to : ℕ) → v.role ≢ Spent → MayCap v place to
    → IsPlayed (problem_of inst) limit (core_of s.words r.count) (core_of (slice_set s.words (up_at place) (min (slice_index s.words (up_at place)) to)) r.count) (cap place to)

-- a word of bits is stored where no place is published: the rows stay
abbrev pub WritingLeaves : Type 0
WritingLeaves = (inst : Instance) (limit : ℕ) (s : State (Unit {0}) View) (r : Kept inst limit s) (j : ℕ) (v : View) → Sees s j v
    → (place part x : ℕ) → v.role ≡ Scribe place → part < 8
    → core_of (slice_set s.words (bits_at place part) x) r.count ≡ core_of s.words r.count

-- a row of some is among others with a low that is no lower and an up that is no higher
pub record IsBettered (rows : List TheoryRow) (r : TheoryRow) : Type 0 where
  pub by : TheoryRow
  pub among : IsRow by rows
  pub group : by.group ≡ r.group
  pub low : r.low ≤ by.low
  pub up : by.up ≤ r.up
  pub most : r.up ≤ no_value

abbrev pub AreBettered : List TheoryRow → List TheoryRow → Type 0
AreBettered known rows = (r : TheoryRow) → IsRow r known → IsBettered rows r

-- what some rows allow of a group, others allow too that know more
pub record AllowsMore (p : Problem) (known rows : List TheoryRow) (group : List ℕ) : Type 0 where
  pub low : most_low p known group ≤ most_low p rows group
  pub up : least_up p rows group ≤ least_up p known group

abbrev pub KnowingMoreAllows : Type 0
KnowingMoreAllows = (p : Problem) (known rows : List TheoryRow) → AreDistinct (groups_of rows) → AreBettered known rows → (group : List ℕ) → AllowsMore p known rows group

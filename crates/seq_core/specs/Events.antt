-- The events of the code as the theory's, and when one is refused.
use Rattle.std.specs.Prelude.{ℕ, ◌≤◌, cond, nat_lt, nat_le, List, [], ◌∷◌, ◌++◌, length, Option, Some, None, Result, Ok, Err, slice_get}
use Rattle.seq_theory.specs.Problem.{Problem}
use Rattle.seq_theory.specs.Tree.{IsLeast}
use Rattle.seq_theory.specs.Graph.{IsReal}
use Rattle.seq_theory.specs.Rows.{Row as TheoryRow, Event as TheoryEvent, enter, raise, cap, most_low, least_up, IsRow, IsSound}
use Rattle.seq_inst.specs.declared.outcome.Row.{Row}
use Rattle.seq_inst.specs.Members.{members}
use Rattle.seq_core.specs.declared.event.Event.{Event}
use Rattle.seq_core.specs.declared.event.Event.TheVariants.{Enter, Raise, Cap}
use Rattle.seq_core.specs.declared.event.Illegal.{Illegal}
use Rattle.seq_core.specs.declared.event.Illegal.TheVariants.{Repeated, Limit, NoPlace, TooHigh, TooLow}
use Rattle.seq_core.specs.RowsOf.{rows_of, place_of_group}
use Rattle.seq_core.specs.Changes.{change_row, new_row, raised, capped}
use Rattle.seq_core.specs.Tables.{Table}

abbrev pub event_of : Event → TheoryEvent
event_of (Enter group) = enter (members group)
event_of (Raise place to) = raise place to
event_of (Cap place to) = cap place to

-- a group that is to be entered is wanted, and has two goals or more
abbrev pub EntersReal : Problem → Event → Type 0
EntersReal p (Enter group) = IsReal p (members group)
EntersReal p (Raise place to) = Unit {0}
EntersReal p (Cap place to) = Unit {0}

-- the rows after it
abbrev pub rows_after : List Row → Event → List Row
rows_after rows (Enter group) = rows ++ new_row group ∷ []
rows_after rows (Raise place to) = change_row rows place (raised to)
rows_after rows (Cap place to) = change_row rows place (capped to)

-- a group is refused that has a place; else where there are as many rows as may be
abbrev pub enter_refusal : ℕ → List TheoryRow → Option ℕ → Option Illegal
enter_refusal limit rows (Some place) = Some (Repeated place)
enter_refusal limit rows None = cond (nat_lt (length rows) limit) None (Some (Limit (length rows)))

-- a raise is refused at no row, and above the most that the rows allow
abbrev pub raise_refusal : Problem → List TheoryRow → ℕ → Option TheoryRow → Option Illegal
raise_refusal p rows to None = Some (NoPlace (length rows))
raise_refusal p rows to (Some r) = cond (nat_le to (most_low p rows r.group)) None (Some (TooHigh to (most_low p rows r.group)))

-- a cap is refused at no row, and below the least that the rows allow
abbrev pub cap_refusal : Problem → List TheoryRow → ℕ → Option TheoryRow → Option Illegal
cap_refusal p rows to None = Some (NoPlace (length rows))
cap_refusal p rows to (Some r) = cond (nat_le (least_up p rows r.group) to) None (Some (TooLow to (least_up p rows r.group)))

-- why the event is refused in these rows, if it is
abbrev pub refusal : Problem → ℕ → List TheoryRow → Event → Option Illegal
refusal p limit rows (Enter group) = enter_refusal limit rows (place_of_group rows (members group))
refusal p limit rows (Raise place to) = raise_refusal p rows to (slice_get rows place)
refusal p limit rows (Cap place to) = cap_refusal p rows to (slice_get rows place)

abbrev pub answer : Option Illegal → Result (Unit {0}) Illegal
answer None = Ok tt
answer (Some illegal) = Err illegal

-- the core is of this problem: its rows are sound
pub record IsCoreOf (p : Problem) (c : Table) : Type 0 where
  pub sound : IsSound p c.room (rows_of c.rows)

-- the least cost of each row's group lies between its low and its up
abbrev pub AreBetween : Problem → List TheoryRow → Type 0
AreBetween p rows = (r : TheoryRow) (least : ℕ) → IsRow r rows → IsLeast p r.group least → (r.low ≤ least) × (least ≤ r.up)

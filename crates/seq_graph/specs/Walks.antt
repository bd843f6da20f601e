-- What one turn of a walk does, and what is left to do.
use Rattle.std.specs.Prelude.{◌≡◌, ℕ, ◌+◌, ◌-◌, ◌*◌, ◌<◌, ◌≤◌, cond, nat_eq, List, [], ◌∷◌, length, Option, Some, None}
use Rattle.seq_theory.specs.Problem.{Problem}
use Rattle.seq_inst.specs.declared.group.Group.{Group}
use Rattle.seq_inst.specs.declared.outcome.Row.{Row}
use Rattle.seq_inst.specs.Members.{members}
use Rattle.seq_graph.specs.Known.{AreRows, group_at}
use Rattle.seq_graph.specs.Steps.{IsNew}

-- how many rows are open: their least cost is not known yet
abbrev pub open_rows : List Row → ℕ
open_rows [] = 0
open_rows (r ∷ rest) = cond (nat_eq r.low r.up) 0 1 + open_rows rest

-- what is left to do: twice the groups that can be entered still, and the open rows
abbrev pub left : ℕ → List Row → ℕ
left limit rows = 2 * (limit - length rows) + open_rows rows

-- each place has its group still
abbrev pub KeepsGroups : List Row → List Row → Type 0
KeepsGroups old new = (k : ℕ) → k < length old → (k < length new) × (group_at new k ≡ group_at old k)

-- the walk has entered a group or closed one, so less is left
pub record HasMoved (p : Problem) (limit : ℕ) (old new : List Row) : Type 0 where
  pub rows_are : AreRows p new
  pub few : length new ≤ limit
  pub keeps : KeepsGroups old new
  pub less : left limit new < left limit old

-- nothing has changed: as many groups as the limit allows have rows, and a real one has none
pub record IsStopped (p : Problem) (limit : ℕ) (old new : List Row) (missed : Group) : Type 0 where
  pub same : new ≡ old
  pub many : length new ≡ limit
  pub missed_is : IsNew p new (members missed)

-- after one turn
abbrev pub HasTurned : Problem → ℕ → List Row → List Row → Option Group → Type 0
HasTurned p limit old new None = HasMoved p limit old new
HasTurned p limit old new (Some missed) = IsStopped p limit old new missed

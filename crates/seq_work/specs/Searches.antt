-- What a search by workers ends with.
use Rattle.std.specs.Prelude.{◌≡◌, ℕ, ◌<◌, ◌≤◌, false, List, [], ◌∷◌, length, slice_index_or, Option, Some, None, IfSome, IsSome}
use Rattle.seq_theory.specs.Problem.{Problem, all_classes, is_end}
use Rattle.seq_inst.specs.declared.group.Group.{Group}
use Rattle.seq_inst.specs.declared.outcome.Row.{Row}
use Rattle.seq_inst.specs.Members.{members}
use Rattle.seq_core.specs.Settled.{groups_in}
use Rattle.seq_core.specs.Entered.{AreEnough, IsFull}
use Rattle.seq_graph.specs.Known.{group_at, IsClosedAt}
use Rattle.seq_work.specs.declared.work.WorkEnd.{WorkEnd}
use Rattle.seq_work.specs.declared.work.WorkEnd.TheVariants.{Solved, Full}

-- the first row is that of the group of all classes, unless all classes have one goal
pub record BeginsWithAll (p : Problem) (rows : List Row) : Type 0 where
  pub some : is_end p (all_classes p) ≡ false → 1 ≤ length rows
  pub first : is_end p (all_classes p) ≡ false → members (group_at rows 0) ≡ all_classes p

-- low and up of the group of all classes are equal, if it has a row, and so the entered groups show the least cost
pub record IsSolved (p : Problem) (rows : List Row) : Type 0 where
  pub closed : is_end p (all_classes p) ≡ false → IsClosedAt rows 0
  pub enough : AreEnough p (groups_in rows)

-- a worker that found the group of all classes closed has solved the problem, whatever the others did; where one found no place for a
-- group, there are as many rows as the limit allows, none of which is that group's
abbrev pub HasCause : Problem → ℕ → List Row → WorkEnd → Type 0
HasCause p limit rows Solved = IsSolved p rows
HasCause p limit rows (Full missed) = IsFull p limit (groups_in rows) (Some missed)

abbrev pub end_of : List (Option WorkEnd) → ℕ → Option WorkEnd
end_of ends worker = slice_index_or ends worker None

-- each of so many workers has ended, and its end has its cause in the rows; there is no other worker
pub record HaveEnded (p : Problem) (limit workers : ℕ) (rows : List Row) (ends : List (Option WorkEnd)) : Type 0 where
  pub all : (worker : ℕ) → worker < workers → IsSome (end_of ends worker)
  pub causes : (worker : ℕ) → IfSome (end_of ends worker) (HasCause p limit rows)
  pub no_other : (worker : ℕ) → workers ≤ worker → end_of ends worker ≡ None

-- the group of the first worker for whose group there was no place
abbrev pub missed_or : Option WorkEnd → Option Group → Option Group
missed_or None later = later
missed_or (Some Solved) later = later
missed_or (Some (Full missed)) later = Some missed

abbrev pub first_missed : List (Option WorkEnd) → Option Group
first_missed [] = None
first_missed (end ∷ rest) = missed_or end (first_missed rest)

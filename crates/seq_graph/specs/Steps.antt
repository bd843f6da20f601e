-- What a walk may do at a group.
use Rattle.std.specs.Prelude.{◌≡◌, ◌≢◌, ℕ, ◌<◌, false, List, length}
use Rattle.seq_theory.specs.Problem.{Problem, splitting, pass_part, fail_part}
use Rattle.seq_theory.specs.Bound.{step_sum}
use Rattle.seq_theory.specs.Graph.{is_entered, IsReal}
use Rattle.seq_theory.specs.Greedy.{first_least}
use Rattle.seq_theory.specs.Rows.{groups_of, known_low}
use Rattle.seq_inst.specs.declared.outcome.Row.{Row}
use Rattle.seq_inst.specs.declared.group.Group.{Group}
use Rattle.seq_inst.specs.declared.parts.Answer.{Answer}
use Rattle.seq_inst.specs.declared.parts.Answer.TheVariants.{Pass, Fail}
use Rattle.seq_inst.specs.Members.{members}
use Rattle.seq_core.specs.RowsOf.{rows_of as rows_from}
use Rattle.seq_graph.specs.declared.steps.Step.{Step}
use Rattle.seq_graph.specs.declared.steps.Step.TheVariants.{Enter, Down, Close}
use Rattle.seq_graph.specs.declared.steps.Knowledge.{Knowledge}
use Rattle.seq_graph.specs.declared.steps.Knowledge.TheVariants.{Unknown, Open, Closed}
use Rattle.seq_graph.specs.Known.{row_at, group_at}
use Rattle.seq_graph.specs.Parts.{IsUnknown, IsKnowledge}

-- the group is real and has no row
pub record IsNew (p : Problem) (rows : List Row) (group : List ℕ) : Type 0 where
  pub real : IsReal p group
  pub absent : is_entered (groups_of (rows_from rows)) group ≡ false

-- the place is that of a smaller group, of which the least cost is not known yet
pub record IsOpenBelow (rows : List Row) (group : List ℕ) (place : ℕ) : Type 0 where
  pub there : place < length rows
  pub smaller : length (members (group_at rows place)) < length group
  pub apart : (row_at rows place).low ≢ (row_at rows place).up

-- the test of least sum over what the parts count for a low, the lowest of these
abbrev pub least_test : Problem → List Row → List ℕ → ℕ
least_test p rows group = first_least (step_sum p (known_low p (rows_from rows)) group) (splitting p group)

-- both parts by the test of least sum are closed
pub record ClosesBelow (p : Problem) (rows : List Row) (group : List ℕ) : Type 0 where
  pub passing : IsKnowledge p rows (pass_part p (least_test p rows group) group) Closed
  pub failing : IsKnowledge p rows (fail_part p (least_test p rows group) group) Closed

-- it enters a real group that has no row, or goes on at an open part, or closes the group, as both of its parts are closed
abbrev pub IsStep : Problem → List Row → List ℕ → Step → Type 0
IsStep p rows group (Enter g) = IsNew p rows (members g)
IsStep p rows group (Down place) = IsOpenBelow rows group place
IsStep p rows group Close = ClosesBelow p rows group

-- the part by the test of least sum, after this answer
abbrev pub part_after : Problem → List Row → List ℕ → Answer → List ℕ
part_after p rows group Pass = pass_part p (least_test p rows group) group
part_after p rows group Fail = fail_part p (least_test p rows group) group

-- the step enters this part
abbrev pub Enters : List ℕ → Step → Type 0
Enters part (Enter g) = members g ≡ part
Enters part (Down place) = ⊥
Enters part Close = ⊥

-- where the part after the first answer is not known, it is the one that is entered
abbrev pub EntersFirst : Problem → List Row → List ℕ → Answer → Step → Type 0
EntersFirst p rows group first step = IsUnknown p rows (part_after p rows group first) → Enters (part_after p rows group first) step

-- the step by what is known of both parts: a part that is not known is entered, else the walk goes on in an open part, and
-- of two the one comes first
abbrev pub step_by : Group → Knowledge → Group → Knowledge → Step
step_by one Unknown other k = Enter one
step_by one (Open place) other Unknown = Enter other
step_by one (Open place) other (Open further) = Down place
step_by one (Open place) other Closed = Down place
step_by one Closed other Unknown = Enter other
step_by one Closed other (Open place) = Down place
step_by one Closed other Closed = Close

-- What a graph that takes in the rows of others knows on the way, and at the end.
use Rattle.std.specs.Prelude.{◌≡◌, ◌⊎◌, ℕ, ◌≤◌, true, List, [], ◌∷◌, ◌++◌, Some}
use Rattle.seq_theory.specs.Problem.{Problem}
use Rattle.seq_theory.specs.Graph.{is_entered, low, val}
use Rattle.seq_theory.specs.Greedy.{greedy_cost}
use Rattle.seq_inst.specs.declared.group.Group.{Group}
use Rattle.seq_inst.specs.declared.outcome.Row.{Row}
use Rattle.seq_inst.specs.Members.{members}
use Rattle.seq_core.specs.Settled.{groups_in}

-- the row's group is an entered one, and the entered groups give it no lower low and no greater value than the row has
pub record IsAllowedBy (p : Problem) (entered : List (List ℕ)) (r : Row) : Type 0 where
  pub among : is_entered entered (members r.group) ≡ true
  pub low : r.low ≤ low p entered (members r.group)
  pub up : (v : ℕ) → val p entered (members r.group) ≡ Some v → v ≤ r.up

-- each group of the one has a row among the others
abbrev pub HasGroupsOf : (rows others : List Row) → Type 0
HasGroupsOf rows others = (group : List ℕ) → is_entered (groups_in rows) group ≡ true → is_entered (groups_in others) group ≡ true

-- the rows are the same, or the group has one more, with no low yet and what greedy costs for an up
abbrev pub IsEnteredOnce : Problem → Group → List Row → List Row → Type 0
IsEnteredOnce p group old new = (new ≡ old) ⊎ (new ≡ old ++ record { group = group; low = 0; up = greedy_cost p (members group) } ∷ [])

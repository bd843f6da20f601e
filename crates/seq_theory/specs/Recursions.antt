-- What the definitions that go down to a depth say of each group: no depth is in it. A group is made from its parts, and
-- the depth that the definitions have only shows that this comes to an end.
use Rattle.std.specs.Prelude.{◌≡◌, ℕ, ◌≤◌, List, Some}
use Rattle.seq_theory.specs.Problem.{Problem, IsWithin, IsWeighed, AreTold}
use Rattle.seq_theory.specs.Tree.{IsLeast}
use Rattle.seq_theory.specs.Greedy.{greedy_step, greedy}
use Rattle.seq_theory.specs.Graph.{low_step, low, val_step, val, strat_step, strat}
use Rattle.seq_theory.specs.Rows.{Row, IsRow, IsSound}

-- greedy asks the greedy test and goes on in both parts; so do low, val, and where there is a value strat, each by its step
pub record Recurs (p : Problem) (group : List ℕ) : Type 0 where
  pub greedy_recurs : greedy p group ≡ greedy_step p (greedy p) group
  pub low_recurs : (entered : List (List ℕ)) → low p entered group ≡ low_step p entered (low p entered) group
  pub val_recurs : (entered : List (List ℕ)) → val p entered group ≡ val_step p entered (val p entered) group
  pub strat_recurs : (entered : List (List ℕ)) (v : ℕ) → val p entered group ≡ Some v → strat p entered group ≡ strat_step p entered (strat p entered) group

abbrev pub RecursionsHold : Type 0
RecursionsHold = (p : Problem) (group : List ℕ) → AreTold p → IsWithin p group → Recurs p group

-- the least cost of the group of each sound row lies between the row's low and its up
abbrev pub SoundRowsHold : Type 0
SoundRowsHold = (p : Problem) (limit : ℕ) (rows : List Row) (r : Row) (n : ℕ) → IsWeighed p → AreTold p → IsSound p limit rows → IsRow r rows → IsLeast p r.group n → (r.low ≤ n) × (n ≤ r.up)

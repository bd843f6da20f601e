-- When an outcome is right. It is a function of the entered groups, of the limit and of the group that was missed; the
-- order of the rows means nothing.
use Rattle.std.specs.Prelude.{◌≡◌, ◌≤◌, ◌↔◌, ℕ, false, true, All, List, length, Some, None}
use Rattle.seq_theory.specs.Problem.{Problem, all_classes, is_end}
use Rattle.seq_theory.specs.Graph.{is_entered, low, val, strat, IsReal}
use Rattle.seq_theory.specs.Rows.{AreDistinct}
use Rattle.seq_inst.specs.declared.outcome.Row.{Row}
use Rattle.seq_inst.specs.declared.outcome.Verdict.TheVariants.{Optimal, Bounded}
use Rattle.seq_inst.specs.declared.outcome.Outcome.{Outcome}
use Rattle.seq_inst.specs.Members.{members}
use Rattle.seq_inst.specs.Trees.{tree_of}
use Rattle.seq_core.specs.Settled.{groups_in}
use Rattle.seq_core.specs.Entered.{IsFull}

-- the groups are distinct, real, at most so many, and the group of all classes is one of them where it is no end
pub record AreEntered (p : Problem) (limit : ℕ) (rows : List Row) : Type 0 where
  pub distinct : AreDistinct (groups_in rows)
  pub real : All (λ r. IsReal p (members r.group)) rows
  pub few : length rows ≤ limit
  pub root : is_end p (all_classes p) ≡ false → is_entered (groups_in rows) (all_classes p) ≡ true

-- the row has its group's low and value over all entered groups
pub record IsSettled (p : Problem) (entered : List (List ℕ)) (r : Row) : Type 0 where
  pub low_is : r.low ≡ low p entered (members r.group)
  pub up_is : val p entered (members r.group) ≡ Some r.up

-- the strategy is that of the entered groups; cost and low are theirs over all classes; the verdict is Optimal exactly
-- where these are equal, and else the limit was met
pub record IsRightOutcome (p : Problem) (limit : ℕ) (o : Outcome) : Type 0 where
  pub entered : AreEntered p limit o.rows.items
  pub settled : All (IsSettled p (groups_in o.rows.items)) o.rows.items
  pub strategy_is : tree_of o.strategy ≡ strat p (groups_in o.rows.items) (all_classes p)
  pub cost_is : val p (groups_in o.rows.items) (all_classes p) ≡ Some o.cost
  pub low_is : low p (groups_in o.rows.items) (all_classes p) ≡ o.low
  pub limit_is : o.limit ≡ limit
  pub optimal : (o.verdict ≡ Optimal) ↔ (o.low ≡ o.cost)
  pub none_missed : o.verdict ≡ Optimal → o.missed ≡ None
  pub full : o.verdict ≡ Bounded → IsFull p limit (groups_in o.rows.items) o.missed

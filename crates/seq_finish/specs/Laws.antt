-- What a right outcome says of the system.
use Rattle.std.specs.Prelude.{◌≡◌, ◌<◌, ◌≤◌, ℕ}
use Rattle.seq_theory.specs.Problem.{Problem, all_classes, IsWeighed, AreTold}
use Rattle.seq_theory.specs.Tree.{tree_cost, Solves, IsLeast}
use Rattle.seq_inst.specs.declared.outcome.Verdict.TheVariants.{Optimal, Bounded}
use Rattle.seq_inst.specs.declared.outcome.Outcome.{Outcome}
use Rattle.seq_inst.specs.Trees.{tree_of}
use Rattle.seq_finish.specs.Outcomes.{IsRightOutcome}

-- its strategy is right for all classes and costs its cost; the least cost lies between its low and its cost, and is the
-- cost where the verdict is Optimal
pub record OutcomeStands (p : Problem) (o : Outcome) (least : ℕ) : Type 0 where
  pub right : Solves p (tree_of o.strategy) (all_classes p)
  pub costs : tree_cost p (tree_of o.strategy) (all_classes p) ≡ o.cost
  pub low : o.low ≤ least
  pub high : least ≤ o.cost
  pub optimal : o.verdict ≡ Optimal → least ≡ o.cost
  pub bounded : o.verdict ≡ Bounded → o.low < o.cost

-- so it is, whatever the least cost is
abbrev pub Stands : Problem → Outcome → Type 0
Stands p o = (least : ℕ) → IsLeast p (all_classes p) least → OutcomeStands p o least

abbrev pub OutcomesHold : Type 0
OutcomesHold = (p : Problem) (limit least : ℕ) (o : Outcome) → IsWeighed p → AreTold p → IsRightOutcome p limit o → IsLeast p (all_classes p) least → OutcomeStands p o least

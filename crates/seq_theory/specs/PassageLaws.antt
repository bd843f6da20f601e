-- What is proved of states and ambiguity groups.
use Rattle.std.specs.Prelude.{◌≡◌, ℕ, ◌<◌, ◌≤◌, ◌↔◌}
use Rattle.seq_theory.specs.Problem.{Problem, all_classes, weight_of, AreTold, IsWeighed}
use Rattle.seq_theory.specs.Tree.{Tree, tree_cost, AsksOnly, Solves, IsLeast}
use Rattle.seq_theory.specs.States.{System, row, class_of, state_problem, IsOfClasses}

-- a strategy is right for all states exactly where it is right for all ambiguity groups, it costs the same, and so the
-- least costs are equal
pub record PassageStands (sys : System) (p : Problem) : Type 0 where
  pub right : (tree : Tree) → Solves (state_problem sys) tree (all_classes (state_problem sys)) ↔ Solves p tree (all_classes p)
  pub costs : (tree : Tree) → AsksOnly p.tests tree → tree_cost (state_problem sys) tree (all_classes (state_problem sys)) ≡ tree_cost p tree (all_classes p)
  pub least : (n : ℕ) → IsLeast (state_problem sys) (all_classes (state_problem sys)) n ↔ IsLeast p (all_classes p) n

abbrev pub PassageHolds : Type 0
PassageHolds = (sys : System) (p : Problem) → IsOfClasses sys p → PassageStands sys p

-- two states are in one ambiguity group exactly where their rows are equal, and so have to be told apart exactly where
-- their rows differ
pub record GroupsStand (sys : System) (a b : ℕ) : Type 0 where
  pub groups : (class_of sys a ≡ class_of sys b) ↔ (row sys a ≡ row sys b)
  pub goals : ((state_problem sys).goal a ≡ (state_problem sys).goal b) ↔ (row sys a ≡ row sys b)

abbrev pub GroupsHold : Type 0
GroupsHold = (sys : System) (a b : ℕ) → a < sys.states → b < sys.states → GroupsStand sys a b

-- the problem of the ambiguity groups is one that a search can take
pub record ClassesStand (sys : System) (p : Problem) : Type 0 where
  pub told : AreTold p
  pub weighed : ((s : ℕ) → s < sys.states → 1 ≤ sys.weight s) → IsWeighed p
  pub total : weight_of p (all_classes p) ≡ weight_of (state_problem sys) (all_classes (state_problem sys))

abbrev pub ClassesHold : Type 0
ClassesHold = (sys : System) (p : Problem) → IsOfClasses sys p → ClassesStand sys p

-- What is known of the problem that a valid instance states.
use Rattle.std.specs.Prelude.{◌≡◌, ℕ, ◌≤◌, nat_le, length}
use Rattle.seq_theory.specs.Problem.{Problem, IsWithin, IsWeighed, IsSized, AreTold, weight_of, is_end}
use Rattle.seq_theory.specs.Bound.{bound}
use Rattle.seq_theory.specs.Greedy.{greedy, greedy_cost}
use Rattle.seq_theory.specs.Shapes.{leaf_count}
use Rattle.seq_inst.specs.declared.group.Group.{Group}
use Rattle.seq_inst.specs.Members.{members}

-- no bound and no greedy cost of a group is above it: 512 tests of 1,000,000 each for a weight of 4,097,000,000. Three such
-- numbers fit a word together
abbrev pub greatest_cost : ℕ
greatest_cost = 2097664000000000000

-- a search can take it: its weights are positive, its numbers are small, and its classes are told apart; a group weighs at
-- most what all classes may weigh together, and has at most as many classes; and a group is an end exactly where it has no
-- second class, as each class is a goal by itself. Bounds and greedy costs fit a word, and the greedy strategy has at most as
-- many leaves as there are classes
pub record InstanceStands (p : Problem) : Type 0 where
  pub weighed : IsWeighed p
  pub sized : IsSized p
  pub told : AreTold p
  pub light : (g : Group) → IsWithin p (members g) → weight_of p (members g) ≤ 4097000000
  pub few : (g : Group) → IsWithin p (members g) → length (members g) ≤ p.classes
  pub ends : (g : Group) → nat_le (length (members g)) 1 ≡ is_end p (members g)
  pub bound_fits : (g : Group) → IsWithin p (members g) → bound p (members g) ≤ greatest_cost
  pub greedy_fits : (g : Group) → IsWithin p (members g) → greedy_cost p (members g) ≤ greatest_cost
  pub greedy_leaves : (g : Group) → IsWithin p (members g) → leaf_count (greedy p (members g)) ≤ p.classes

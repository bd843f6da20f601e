-- Small problems that the definitions are tried on.
use Rattle.std.specs.Prelude.{ℕ, not, nat_eq, List, [], ◌∷◌, length, slice_index}
use Rattle.std.specs.List.{list_any}
use Rattle.std.proofs.Common.{get_or}
use Rattle.seq_theory.specs.Problem.{Problem}

-- a problem by lists: the classes' weights, the tests' costs, the classes that fail each test, and the classes' goals
abbrev pub problem_of_lists : List ℕ → List ℕ → List (List ℕ) → List ℕ → Problem
problem_of_lists weights costs failing goals = record {
  classes = length weights;
  tests = length costs;
  weight = λ c. slice_index weights c;
  cost = λ t. slice_index costs t;
  passes = λ t c. not (list_any (nat_eq c) (get_or failing t []));
  goal = λ c. slice_index goals c;
}

-- two faults, each seen by a test of its own
abbrev pub two_faults : Problem
two_faults = problem_of_lists (6 ∷ 3 ∷ 1 ∷ []) (2 ∷ 1 ∷ []) ((1 ∷ []) ∷ (2 ∷ []) ∷ []) (0 ∷ 1 ∷ 2 ∷ [])

-- a chain of three: each test sees the faults before it
abbrev pub chain : ℕ → ℕ → ℕ → Problem
chain good weight cost = problem_of_lists (good ∷ weight ∷ weight ∷ weight ∷ []) (cost ∷ cost ∷ cost ∷ [])
    ((1 ∷ []) ∷ (1 ∷ 2 ∷ []) ∷ (1 ∷ 2 ∷ 3 ∷ []) ∷ []) (0 ∷ 1 ∷ 2 ∷ 3 ∷ [])

-- four faults, each seen by a test of its own
abbrev pub star : Problem
star = problem_of_lists (1 ∷ 1 ∷ 1 ∷ 1 ∷ 1 ∷ []) (1 ∷ 1 ∷ 1 ∷ 1 ∷ []) ((1 ∷ []) ∷ (2 ∷ []) ∷ (3 ∷ []) ∷ (4 ∷ []) ∷ []) (0 ∷ 1 ∷ 2 ∷ 3 ∷ 4 ∷ [])

-- four faults and no state without a fault; the first two are one goal
abbrev pub units : Problem
units = problem_of_lists (1 ∷ 1 ∷ 1 ∷ 1 ∷ []) (1 ∷ 1 ∷ 1 ∷ 1 ∷ []) ((0 ∷ []) ∷ (1 ∷ []) ∷ (2 ∷ []) ∷ (3 ∷ []) ∷ []) (0 ∷ 0 ∷ 2 ∷ 3 ∷ [])

-- the same with a state without a fault
abbrev pub units_good : Problem
units_good = problem_of_lists (1 ∷ 1 ∷ 1 ∷ 1 ∷ 1 ∷ []) (1 ∷ 1 ∷ 1 ∷ 1 ∷ []) ((1 ∷ []) ∷ (2 ∷ []) ∷ (3 ∷ []) ∷ (4 ∷ []) ∷ []) (0 ∷ 1 ∷ 1 ∷ 3 ∷ 4 ∷ [])

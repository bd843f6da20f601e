-- The states of a system under test, the rows of its matrix, and its ambiguity groups.
use Rattle.std.specs.Prelude.{◌≡◌, ℕ, ◌<◌, Bool, true, false, not, ◌&&◌, nat_eq, nat_lt, List, filter, map, length}
use Rattle.std.specs.List.{list_all, list_any}
use Rattle.seq_theory.specs.Problem.{Problem, count_up, weight_of}
use Rattle.seq_theory.specs.Graph.{first_where}

-- states with weights, tests with costs, and which test fails in which state (the state is given first)
pub record System : Type 0 where
  pub states : ℕ
  pub tests : ℕ
  pub weight : ℕ → ℕ
  pub cost : ℕ → ℕ
  pub fails : ℕ → ℕ → Bool

-- the row of a state: whether each test fails in it
abbrev pub row : System → ℕ → List Bool
row sys s = map (sys.fails s) (count_up 0 sys.tests)

abbrev pub same : Bool → Bool → Bool
same true b = b
same false b = not b

-- whether two states have equal rows
abbrev pub same_row : System → ℕ → ℕ → Bool
same_row sys a b = list_all (λ t. same (sys.fails a t) (sys.fails b t)) (count_up 0 sys.tests)

-- the first state whose row equals that of the state
abbrev pub first_alike : System → ℕ → ℕ
first_alike sys s = first_where (λ r. same_row sys r s) (count_up 0 sys.states)

-- whether no earlier state has its row
abbrev pub is_first : System → ℕ → Bool
is_first sys s = nat_eq (first_alike sys s) s

-- the first states of the ambiguity groups, in order: these number the groups
abbrev pub firsts : System → List ℕ
firsts sys = filter (is_first sys) (count_up 0 sys.states)

-- the ambiguity group of a state: how many begin before the first state with its row
unfoldable pub class_of : System → ℕ → ℕ
class_of sys s = length (filter (is_first sys) (count_up 0 (first_alike sys s)))

-- the problem of single states: those with equal rows need not be told apart
abbrev pub state_problem : System → Problem
state_problem sys = record {
  classes = sys.states;
  tests = sys.tests;
  weight = sys.weight;
  cost = sys.cost;
  passes = λ t s. not (sys.fails s t);
  goal = first_alike sys;
}

-- the problem of the ambiguity groups, each with the weight of its states, each to be told from each other
pub record IsOfClasses (sys : System) (p : Problem) : Type 0 where
  pub classes : p.classes ≡ length (firsts sys)
  pub tests : p.tests ≡ sys.tests
  pub weight : (c : ℕ) → c < p.classes → p.weight c ≡ weight_of (state_problem sys) (filter (λ s. nat_eq (class_of sys s) c) (count_up 0 sys.states))
  pub cost : (t : ℕ) → t < p.tests → p.cost t ≡ sys.cost t
  pub passes : (t s : ℕ) → t < sys.tests → s < sys.states → p.passes t (class_of sys s) ≡ not (sys.fails s t)
  pub goal : (c : ℕ) → c < p.classes → p.goal c ≡ c

-- the one such problem: a group weighs what its states weigh together, and passes a test of the system that some state
-- of it passes, since then each does; past groups and tests nothing weighs or passes
abbrev pub problem_of_classes : System → Problem
problem_of_classes sys = record {
  classes = length (firsts sys);
  tests = sys.tests;
  weight = λ c. weight_of (state_problem sys) (filter (λ s. nat_eq (class_of sys s) c) (count_up 0 sys.states));
  cost = sys.cost;
  passes = λ t c. nat_lt t sys.tests && list_any (λ s. nat_eq (class_of sys s) c && not (sys.fails s t)) (count_up 0 sys.states);
  goal = λ c. c;
}

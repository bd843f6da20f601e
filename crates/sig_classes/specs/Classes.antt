-- The ambiguity groups of a system, as a list by state, and what each weighs, as a list by group.
use Rattle.std.specs.Prelude.{◌≡◌, ◌↔◌, ℕ, ◌<◌, ◌≤◌, nat_eq, filter, map, length, slice_index}
use Rattle.seq_theory.specs.Problem.{count_up, weight_of}
use Rattle.seq_theory.specs.States.{System, row, class_of, firsts, state_problem}
use Rattle.sig_classes.specs.declared.classes.Classes.{Classes}

-- what the states of an ambiguity group weigh together
abbrev pub class_weight : System → ℕ → ℕ
class_weight sys class = weight_of (state_problem sys) (filter (λ s. nat_eq (class_of sys s) class) (count_up 0 sys.states))

-- the lists give each state its ambiguity group, and each ambiguity group what its states weigh together; two states have one
-- group exactly where their rows are equal, and there are at most as many groups as states
pub record AreClassesOf (sys : System) (classes : Classes) : Type 0 where
  pub groups : classes.class_of.items ≡ map (class_of sys) (count_up 0 sys.states)
  pub at : (s : ℕ) → s < sys.states → slice_index classes.class_of.items s ≡ class_of sys s
  pub equal : (a b : ℕ) → a < sys.states → b < sys.states → (slice_index classes.class_of.items a ≡ slice_index classes.class_of.items b) ↔ (row sys a ≡ row sys b)
  pub states : length classes.class_of.items ≡ sys.states
  pub as_many : length classes.weights.items ≡ length (firsts sys)
  pub few : length (firsts sys) ≤ sys.states
  pub sums : classes.weights.items ≡ map (class_weight sys) (count_up 0 (length (firsts sys)))

-- A problem whose classes gather the states of another.
use Rattle.std.specs.Prelude.{◌≡◌, ℕ, ◌<◌, ◌↔◌, nat_eq, List, filter}
use Rattle.seq_theory.specs.Problem.{Problem, all_classes, weight_of}

-- the states that go into a class
abbrev pub gathered : Problem → (ℕ → ℕ) → ℕ → List ℕ
gathered states class_of c = filter (λ s. nat_eq (class_of s) c) (all_classes states)

-- each state goes into a class and each class has a state; the tests are the same and answer for a state as for its
-- class; a class weighs what its states weigh together; and states have one goal exactly where their classes have
pub record IsGathered (states classes : Problem) (class_of : ℕ → ℕ) : Type 0 where
  pub tests : states.tests ≡ classes.tests
  pub cost : (t : ℕ) → t < states.tests → states.cost t ≡ classes.cost t
  pub goes : (s : ℕ) → s < states.classes → class_of s < classes.classes
  pub has : (c : ℕ) → c < classes.classes → (s : ℕ) × (s < states.classes) × (class_of s ≡ c)
  pub passes : (t s : ℕ) → t < states.tests → s < states.classes → states.passes t s ≡ classes.passes t (class_of s)
  pub weight : (c : ℕ) → c < classes.classes → classes.weight c ≡ weight_of states (gathered states class_of c)
  pub goals : (a b : ℕ) → a < states.classes → b < states.classes → (states.goal a ≡ states.goal b) ↔ (classes.goal (class_of a) ≡ classes.goal (class_of b))

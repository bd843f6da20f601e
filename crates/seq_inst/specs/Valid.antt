-- What the lists of an instance say, and when a search can take them.
use Rattle.std.specs.Prelude.{◌≡◌, ℕ, ◌<◌, ◌≤◌, true, List, [], length, slice_index, slice_index_or}
use Rattle.seq_theory.specs.Problem.{Problem, AreTold, weight_of, all_classes}
use Rattle.seq_inst.specs.declared.group.Group.{Group}
use Rattle.seq_inst.specs.Members.{has_class}

-- a group without a class
abbrev pub no_class : Group
no_class = record { 0 = [] }

-- the problem that the lists state: each class is a goal by itself
abbrev pub problem_from : List ℕ → List ℕ → List Group → Problem
problem_from weights costs passes = record {
  classes = length weights;
  tests = length costs;
  weight = λ c. slice_index weights c;
  cost = λ t. slice_index costs t;
  passes = λ t c. has_class (slice_index_or passes t no_class) c;
  goal = λ c. c;
}

-- 1 to 512 classes, each of a weight of at least 1, together at most 4,097,000,000; at most 256 tests, each of a cost of
-- 1 to 1,000,000; for each test the classes that pass it; and any two classes differ in a test
pub record IsValid (ws cs : List ℕ) (ps : List Group) : Type 0 where
  pub some : 1 ≤ length ws
  pub few : length ws ≤ 512
  pub positive : (c : ℕ) → c < length ws → 1 ≤ slice_index ws c
  pub total : weight_of (problem_from ws cs ps) (all_classes (problem_from ws cs ps)) ≤ 4097000000
  pub tests : length cs ≤ 256
  pub costs : (t : ℕ) → t < length cs → (1 ≤ slice_index cs t) × (slice_index cs t ≤ 1000000)
  pub as_many : length ps ≡ length cs
  pub within : (t c : ℕ) → t < length ps → c < 512 → has_class (slice_index_or ps t no_class) c ≡ true → c < length ws
  pub told : AreTold (problem_from ws cs ps)

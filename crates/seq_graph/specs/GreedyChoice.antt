-- How greedy's test is chosen: by the sums of the tests, few of which are worked out.
use Rattle.std.specs.Prelude.{◌≡◌, ℕ, ◌<◌, ◌≤◌, true, List, slice_index}
use Rattle.seq_theory.specs.Problem.{Problem, IsIn, splits, splitting}
use Rattle.seq_theory.specs.Bound.{bound, step_sum}
use Rattle.seq_graph.specs.declared.greedy.Chosen.{Chosen}
use Rattle.seq_graph.specs.declared.greedy.Estimates.{Estimates}
use Rattle.seq_inst.specs.declared.group.Group.{Group}
use Rattle.seq_inst.specs.declared.instance.Instance.{Instance}
use Rattle.seq_inst.specs.Instances.{problem_of}
use Rattle.seq_inst.specs.Members.{members}

-- the first has no greater sum than the second, and where the sums are the same no higher test
pub record IsNoLater (a b : Chosen) : Type 0 where
  pub least : a.sum ≤ b.sum
  pub lowest : a.sum ≡ b.sum → a.test ≤ b.test

-- the test with its sum over the bounds of its parts
abbrev pub evaluated : Problem → List ℕ → ℕ → Chosen
evaluated p group test = record { test = test; sum = step_sum p (bound p) group test }

-- a splitting test with its sum
pub record IsTestWithSum (p : Problem) (group : List ℕ) (c : Chosen) : Type 0 where
  pub test : IsIn c.test (splitting p group)
  pub sum : c.sum ≡ step_sum p (bound p) group c.test

-- each splitting test has an estimate that is at most its sum, and the test that is named splits
pub record AreEstimates (p : Problem) (group : List ℕ) (e : Estimates) : Type 0 where
  pub low : (test : ℕ) → test < p.tests → splits p group test ≡ true → slice_index e.of_tests test ≤ step_sum p (bound p) group test
  pub first : IsIn e.first (splitting p group)

-- the estimates of this group of the instance
abbrev pub AreEstimatesFor : Instance → Group → Estimates → Type 0
AreEstimatesFor inst group estimates = AreEstimates (problem_of inst) (members group) estimates

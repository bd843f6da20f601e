-- What the estimates of a group's tests are made from.
use Rattle.std.specs.Prelude.{◌≡◌, ℕ, ◌+◌, ◌-◌, ◌*◌, ◌/◌, ◌%◌, ◌<◌, max, List, length, slice_index}
use Rattle.seq_theory.specs.Problem.{Problem, weight_of}
use Rattle.seq_theory.specs.Bound.{sum_first, splitting_costs}
use Rattle.seq_huff.specs.declared.mass.Mass.{Mass}
use Rattle.seq_huff.specs.declared.estimate.Estimate.{Estimate}
use Rattle.seq_huff.specs.Potential.{potentials}
use Rattle.seq_inst.specs.declared.group.Group.{Group}
use Rattle.seq_inst.specs.declared.instance.Instance.{Instance}
use Rattle.seq_inst.specs.Instances.{problem_of}
use Rattle.seq_inst.specs.Members.{members}

-- how many classes a group has, what they weigh, and the sum of their potentials
pub record IsMassOf (p : Problem) (group : List ℕ) (m : Mass) : Type 0 where
  pub classes : m.classes ≡ length group
  pub weight : m.weight ≡ weight_of p group
  pub potential : m.potential ≡ potentials p group

-- the numbers below a place are the sums of the first so many costs, as many as their place says
abbrev pub AreSums : List ℕ → List ℕ → ℕ → Type 0
AreSums costs sums end = (count : ℕ) → count < end → slice_index sums count ≡ sum_first count costs

-- the mass of the group, and the sums of the first so many costs of the tests that split it
pub record IsEstimateOf (p : Problem) (group : List ℕ) (e : Estimate) : Type 0 where
  pub mass : IsMassOf p group e.mass
  pub sums : AreSums (splitting_costs p group) e.sums 258

-- at most the sum of so many costs of a list without one of them
abbrev pub sum_without : List ℕ → ℕ → ℕ → ℕ
sum_without sums cost count = max (slice_index sums count) (slice_index sums (count + 1) - cost)

-- the bound that is made from such sums
abbrev pub bound_without : List ℕ → ℕ → (weight huffman : ℕ) → ℕ
bound_without sums cost weight huffman = (weight - huffman % weight) * sum_without sums cost (huffman / weight) + huffman % weight * sum_without sums cost (huffman / weight + 1)

-- the mass of this group of the instance
abbrev pub IsMassFor : Instance → Group → Mass → Type 0
IsMassFor inst group mass = IsMassOf (problem_of inst) (members group) mass

-- what the estimates of this group of the instance are made from
abbrev pub IsEstimateFor : Instance → Group → Estimate → Type 0
IsEstimateFor inst group estimate = IsEstimateOf (problem_of inst) (members group) estimate

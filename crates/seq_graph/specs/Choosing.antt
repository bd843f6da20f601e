-- The tests among which a worker chooses, in place of the one of least sum.
use Rattle.std.specs.Prelude.{ℕ, ◌<◌, ◌≤◌, List, length}
use Rattle.seq_theory.specs.Problem.{Problem, pass_part, fail_part}
use Rattle.seq_theory.specs.Graph.{IsWanted}
use Rattle.seq_theory.specs.Tree.{IsLeast}
use Rattle.seq_inst.specs.declared.outcome.Row.{Row}
use Rattle.seq_graph.specs.declared.steps.Knowledge.{Knowledge}
use Rattle.seq_graph.specs.declared.steps.Knowledge.TheVariants.{Unknown, Open, Closed}
use Rattle.seq_graph.specs.declared.choosing.Candidate.{Candidate}
use Rattle.seq_graph.specs.KeptOf.{HasParts}
use Rattle.seq_graph.specs.Numbered.{Numbered}
use Rattle.seq_graph.specs.Parts.{IsKnowledge}

-- the least cost of the group is at least this
abbrev pub IsLowOf : Problem → List ℕ → ℕ → Type 0
IsLowOf p group low = (n : ℕ) → IsLeast p group n → low ≤ n

-- the part is wanted, and smaller than the group
pub record IsWantedBelow (p : Problem) (group part : List ℕ) : Type 0 where
  pub wanted : IsWanted p part
  pub smaller : length part < length group

-- both parts of the group by the test are wanted
pub record WantsBoth (p : Problem) (group : List ℕ) (t : ℕ) : Type 0 where
  pub passing : IsWantedBelow p group (pass_part p t group)
  pub failing : IsWantedBelow p group (fail_part p t group)

-- not both are closed
abbrev pub IsAhead : Knowledge → Knowledge → Type 0
IsAhead Unknown k = Unit {0}
IsAhead (Open place) k = Unit {0}
IsAhead Closed Unknown = Unit {0}
IsAhead Closed (Open place) = Unit {0}
IsAhead Closed Closed = ⊥

-- a test with the numbers of its parts, and with what is known of each: both are wanted, and they are not both closed
pub record IsCandidate (p : Problem) (v : Numbered) (rows : List Row) (group : List ℕ) (c : Candidate) : Type 0 where
  pub parts : HasParts p v group c.split
  pub wants : WantsBoth p group c.split.test
  pub passing : IsKnowledge p rows (pass_part p c.split.test group) c.pass
  pub failing : IsKnowledge p rows (fail_part p c.split.test group) c.fail
  pub ahead : IsAhead c.pass c.fail

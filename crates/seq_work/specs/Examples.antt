-- The problem that the tests make.
use Rattle.std.specs.Prelude.{[], ◌∷◌}
use Rattle.seq_theory.specs.Problem.{Problem}
use Rattle.seq_inst.specs.Valid.{problem_from}

-- four faults, each seen by a test of its own
abbrev pub star : Problem
star = problem_from (1 ∷ 1 ∷ 1 ∷ 1 ∷ 1 ∷ []) (1 ∷ 1 ∷ 1 ∷ 1 ∷ [])
    (record { 0 = 29 ∷ 0 ∷ 0 ∷ 0 ∷ 0 ∷ 0 ∷ 0 ∷ 0 ∷ [] } ∷ record { 0 = 27 ∷ 0 ∷ 0 ∷ 0 ∷ 0 ∷ 0 ∷ 0 ∷ 0 ∷ [] }
    ∷ record { 0 = 23 ∷ 0 ∷ 0 ∷ 0 ∷ 0 ∷ 0 ∷ 0 ∷ 0 ∷ [] } ∷ record { 0 = 15 ∷ 0 ∷ 0 ∷ 0 ∷ 0 ∷ 0 ∷ 0 ∷ 0 ∷ [] } ∷ [])

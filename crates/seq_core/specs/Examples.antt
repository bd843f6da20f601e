-- The problems that the tests make.
use Rattle.std.specs.Prelude.{[], ◌∷◌}
use Rattle.seq_theory.specs.Problem.{Problem}
use Rattle.seq_inst.specs.Valid.{problem_from}

-- two faults, each seen by a test of its own
abbrev pub two_faults : Problem
two_faults = problem_from (6 ∷ 3 ∷ 1 ∷ []) (2 ∷ 1 ∷ [])
    (record { 0 = 5 ∷ 0 ∷ 0 ∷ 0 ∷ 0 ∷ 0 ∷ 0 ∷ 0 ∷ [] } ∷ record { 0 = 3 ∷ 0 ∷ 0 ∷ 0 ∷ 0 ∷ 0 ∷ 0 ∷ 0 ∷ [] } ∷ [])

-- four faults, each seen by a test of its own
abbrev pub star : Problem
star = problem_from (1 ∷ 1 ∷ 1 ∷ 1 ∷ 1 ∷ []) (1 ∷ 1 ∷ 1 ∷ 1 ∷ [])
    (record { 0 = 29 ∷ 0 ∷ 0 ∷ 0 ∷ 0 ∷ 0 ∷ 0 ∷ 0 ∷ [] } ∷ record { 0 = 27 ∷ 0 ∷ 0 ∷ 0 ∷ 0 ∷ 0 ∷ 0 ∷ 0 ∷ [] }
    ∷ record { 0 = 23 ∷ 0 ∷ 0 ∷ 0 ∷ 0 ∷ 0 ∷ 0 ∷ 0 ∷ [] } ∷ record { 0 = 15 ∷ 0 ∷ 0 ∷ 0 ∷ 0 ∷ 0 ∷ 0 ∷ 0 ∷ [] } ∷ [])

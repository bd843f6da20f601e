-- Which faults are detected, and which tests detect any.
use Rattle.std.specs.Prelude.{ℕ, Bool, not, List, filter, length, slice_index_or, sum_by}
use Rattle.std.specs.List.{list_any}
use Rattle.seq_theory.specs.Problem.{count_up}
use Rattle.sig_matrix.specs.declared.matrix.Matrix.{Matrix}
use Rattle.sig_matrix.specs.Detection.{detects, no_row}

-- the numbers of all faults, and of all tests, upwards
abbrev pub all_faults : Matrix → List ℕ
all_faults matrix = count_up 0 (length matrix.faults)

abbrev pub all_tests : Matrix → List ℕ
all_tests matrix = count_up 0 (length matrix.tests)

-- some test detects the fault
unfoldable pub is_seen : Matrix → ℕ → Bool
is_seen matrix fault = list_any (detects matrix fault) (all_tests matrix)

-- the faults that some test detects, and those that no test detects
abbrev pub seen_faults : Matrix → List ℕ
seen_faults matrix = filter (is_seen matrix) (all_faults matrix)

abbrev pub unseen_faults : Matrix → List ℕ
unseen_faults matrix = filter (λ fault. not (is_seen matrix fault)) (all_faults matrix)

-- what a fault weighs, and what the faults of a list weigh together
abbrev pub weight_at : Matrix → ℕ → ℕ
weight_at matrix fault = (slice_index_or matrix.faults fault no_row).weight

abbrev pub weight_together : Matrix → List ℕ → ℕ
weight_together matrix faults = sum_by (weight_at matrix) faults

-- the test detects some fault
unfoldable pub sees_fault : Matrix → ℕ → Bool
sees_fault matrix test = list_any (λ fault. detects matrix fault test) (all_faults matrix)

-- the tests that detect no fault
abbrev pub blind_tests : Matrix → List ℕ
blind_tests matrix = filter (λ test. not (sees_fault matrix test)) (all_tests matrix)

-- How many faults lie in ambiguity groups of each size.
use Rattle.std.specs.Prelude.{ℕ, suc, ◌+◌, nat_eq, nat_lt, List, filter, map, count_by}
use Rattle.seq_theory.specs.Problem.{count_up}
use Rattle.seq_theory.specs.States.{class_of}
use Rattle.sig_matrix.specs.declared.matrix.Matrix.{Matrix}
use Rattle.sig_matrix.specs.Detection.{before_faults, state_count, system_of}
use Rattle.sig_figures.specs.declared.summary.SizeCount.{SizeCount}
use Rattle.sig_figures.specs.Coverage.{all_faults}

-- how many states the ambiguity group has
unfoldable pub states_in : Matrix → ℕ → ℕ
states_in matrix group = count_by (λ state. nat_eq (class_of (system_of matrix) state) group) (count_up 0 (state_count matrix))

-- how many states the ambiguity group has in which the fault lies
unfoldable pub group_size : Matrix → ℕ → ℕ
group_size matrix fault = states_in matrix (class_of (system_of matrix) (before_faults matrix + fault))

-- how many faults lie in ambiguity groups of so many states
unfoldable pub faults_in_size : Matrix → ℕ → ℕ
faults_in_size matrix size = count_by (λ fault. nat_eq (group_size matrix fault) size) (all_faults matrix)

-- a number of states, with the faults that lie in groups of so many
abbrev pub counted : Matrix → ℕ → SizeCount
counted matrix size = record { states = size; faults = faults_in_size matrix size }

-- for each number of states, upwards, how many faults lie in groups of so many states, where there are any
abbrev pub size_counts : Matrix → List SizeCount
size_counts matrix = map (counted matrix) (filter (λ size. nat_lt 0 (faults_in_size matrix size)) (count_up 0 (suc (state_count matrix))))

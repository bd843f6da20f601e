-- How many times each number stands in a list.
use Rattle.std.specs.Prelude.{ℕ, nat_eq, nat_lt, List, filter, map, count_by, length, slice_index}
use Rattle.seq_theory.specs.Problem.{count_up}
use Rattle.sig_figures.specs.declared.summary.SizeCount.{SizeCount}

-- how many times the number stands in the list
abbrev pub times_in : List ℕ → ℕ → ℕ
times_in numbers n = count_by (λ m. nat_eq m n) numbers

-- the same for each number below a bound
abbrev pub counts_of : List ℕ → ℕ → List ℕ
counts_of numbers bound = map (times_in numbers) (count_up 0 bound)

-- a number of states with its count
abbrev pub count_at : List ℕ → ℕ → SizeCount
count_at counts n = record { states = n; faults = slice_index counts n }

-- each number with its count, where that isn't 0
abbrev pub some_counts : List ℕ → List SizeCount
some_counts counts = map (count_at counts) (filter (λ n. nat_lt 0 (slice_index counts n)) (count_up 0 (length counts)))

-- Tests whose columns are equal: they detect the same faults.
use Rattle.std.specs.Prelude.{ℕ, Bool, List, Option, find}
use Rattle.std.specs.List.{list_all, filter_map}
use Rattle.std.specs.Option.{option_map}
use Rattle.seq_theory.specs.Problem.{count_up}
use Rattle.seq_theory.specs.States.{same}
use Rattle.sig_matrix.specs.declared.matrix.Matrix.{Matrix}
use Rattle.sig_matrix.specs.Detection.{detects}
use Rattle.sig_figures.specs.declared.summary.EqualTest.{EqualTest}
use Rattle.sig_figures.specs.Coverage.{all_faults, all_tests}

-- two tests detect the same faults
unfoldable pub same_column : Matrix → ℕ → ℕ → Bool
same_column matrix a b = list_all (λ fault. same (detects matrix fault a) (detects matrix fault b)) (all_faults matrix)

-- of the tests before this one, the first that detects the same faults, if there is one
unfoldable pub earlier_equal : Matrix → ℕ → Option ℕ
earlier_equal matrix test = find (λ earlier. same_column matrix earlier test) (count_up 0 test)

-- the pair of a test and the first that equals it
abbrev pub paired : ℕ → ℕ → EqualTest
paired test first = record { test = test; first = first }

-- each test with an equal earlier column, and the first such test
abbrev pub tests_alike : Matrix → List EqualTest
tests_alike matrix = filter_map (λ test. option_map (paired test) (earlier_equal matrix test)) (all_tests matrix)

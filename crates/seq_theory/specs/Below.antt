-- The numbers below a bound that pass a test: how a list of tests, or of the classes of a group, is told apart from all.
use Rattle.std.specs.Prelude.{ℕ, Bool, List, filter}
use Rattle.seq_theory.specs.Problem.{count_up}

-- the numbers below n that pass, upwards
unfoldable pub passing_below : (ℕ → Bool) → ℕ → List ℕ
passing_below f n = filter f (count_up 0 n)

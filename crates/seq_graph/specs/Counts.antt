-- What groups count, by number.
use Rattle.std.specs.Prelude.{ℕ, cond, List, None, slice_index_or}
use Rattle.seq_theory.specs.Problem.{Problem, is_end}
use Rattle.seq_theory.specs.Bound.{bound}
use Rattle.seq_theory.specs.Rows.{no_value}
use Rattle.seq_graph.specs.declared.graph.Count.{Count}

abbrev pub no_count : Count
no_count = record { low = 0; up = 0; place = None }

abbrev pub count_at : List Count → ℕ → Count
count_at counts number = slice_index_or counts number no_count

-- what a group counts that has no row: its bound for a low, and no up; a group with one goal has a bound and an up of 0
abbrev pub new_count : Problem → List ℕ → Count
new_count p group = record { low = bound p group; up = cond (is_end p group) 0 no_value; place = None }

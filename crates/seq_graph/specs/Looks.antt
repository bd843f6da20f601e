-- What a look at the tests that wait leaves.
use Rattle.std.specs.Prelude.{◌≡◌, ℕ, All, List, None}
use Rattle.seq_theory.specs.Problem.{Problem}
use Rattle.seq_theory.specs.Graph.{step_value}
use Rattle.seq_theory.specs.Rows.{known_up}
use Rattle.seq_inst.specs.declared.outcome.Row.{Row}
use Rattle.seq_inst.specs.Members.{members}
use Rattle.seq_graph.specs.declared.node.Node.{Node}
use Rattle.seq_core.specs.RowsOf.{rows_of as rows_from}
use Rattle.seq_graph.specs.Known.{group_at, waiting_at}

-- of each test that waits at the place, a part has no up
abbrev pub NoneIsValued : Problem → List Row → List Node → ℕ → Type 0
NoneIsValued p rows kept place = All (λ w. step_value p (known_up p (rows_from rows)) (members (group_at rows place)) w.test ≡ None) (waiting_at kept place)

use Rattle.std.proofs.Common.{◌≡◌, ◌+◌, drop}
use Rattle.seq_check.specs.Looks.{first_bad}
use Rattle.seq_check.specs.ModelLooks.{is_test, side_looks}
use Rattle.seq_check.proofs.model.first_in_tests.Given as goal

-- the lines before this one are good
abbrev pub invariant-loop-at : goal.invariant-loop-at
invariant-loop-at l = first_bad (side_looks is_test l.line l.tests l.lines) ≡ first_bad (side_looks is_test (l.line + l.at) (drop l.at l.tests) (drop l.at l.lines))

use Rattle.std.proofs.Common.{◌≡◌, ◌+◌, drop}
use Rattle.seq_check.specs.Looks.{first_bad}
use Rattle.seq_check.specs.ModelLooks.{is_state, side_looks}
use Rattle.seq_check.specs.Picked.{picked}
use Rattle.seq_check.proofs.model.first_in_states.Given as goal

-- the lines before this one are good
abbrev pub invariant-loop-at : goal.invariant-loop-at
invariant-loop-at l = first_bad (side_looks is_state l.line (picked l.states l.numbers) l.lines) ≡ first_bad (side_looks is_state (l.line + l.at) (drop l.at (picked l.states l.numbers)) (drop l.at l.lines))

use Rattle.std.proofs.Common.{◌≡◌, take, length}
use Rattle.seq_core.specs.Tables.{placed_groups}
use Rattle.seq_finish.proofs.places.index_of.Given as goal

abbrev pub invariant-loop-i : goal.invariant-loop-i
invariant-loop-i l = l.places ≡ record { room = length l.rows; placed = placed_groups 0 (take l.i l.rows) }

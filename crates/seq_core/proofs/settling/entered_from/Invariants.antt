use Rattle.std.proofs.Common.{◌≡◌, length, take}
use Rattle.seq_core.proofs.EnterAll.{fresh}
use Rattle.seq_core.proofs.settling.entered_from.Given as goal

abbrev pub invariant-loop-row : goal.invariant-loop-row
invariant-loop-row l = record {
  rows : l.core.rows ≡ fresh (take l.row-index l.rows);
  room : l.core.room ≡ length l.rows;
}

use Rattle.std.proofs.Common.{◌≡◌}
use Rattle.seq_words.proofs.publishing.write_group.Given as goal

abbrev pub ghosts-begin : goal.ghosts-begin
ghosts-begin a = record { group = a.group.now.0 }

abbrev pub invariant-loop-part : goal.invariant-loop-part
invariant-loop-part l = record {
  table : l.seat.table_id ≡ l.fn.seat.table_id;
  view : l.seat.me.0 ≡ record l.fn.seat.me.0 { draft = l.group.0; stored = l.part };
  slots : l.seat.me.1 ≡ l.fn.seat.me.1;
}

use Rattle.std.proofs.Common.{◌≡◌, ◌≤◌, vec_capacity, vec_len}
use Rattle.std.specs.Mem.Slots.{slots_items}
use Rattle.seq_words.specs.Closing.{IsCoreTo}
use Rattle.seq_words.proofs.closing.rows_in.Given as goal

abbrev pub invariant-loop-place : goal.invariant-loop-place
invariant-loop-place l = record {
  len : vec_len l.into ≡ l.place;
  room : l.limit ≤ vec_capacity l.into;
  rows : IsCoreTo (slots_items l.closed.words) l.place l.into.items;
}

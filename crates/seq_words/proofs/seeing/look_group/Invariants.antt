use Rattle.std.proofs.Common.{◌≡◌, length}
use Rattle.seq_words.specs.Seats.{Reading}
use Rattle.seq_words.proofs.seeing.look_group.Given as goal

abbrev pub invariant-loop-part : goal.invariant-loop-part
invariant-loop-part l = record {
  size : length l.group ≡ 8;
  so_far : Reading l.words l.initial.seat l.place l.seat l.group l.part;
}

use Rattle.std.proofs.Common.{◌≡◌, length, All}
use Rattle.seq_words.specs.Plays.{as_worker}
use Rattle.seq_words.specs.Seats.{Sitting, sees}
use Rattle.seq_words.proofs.making.deal.Given as goal

abbrev pub invariant-loop-i : goal.invariant-loop-i
invariant-loop-i l = record {
  same : l.scribe ≡ l.initial.scribe;
  seats : All (λ (s : Sitting). s ≡ sees l.initial.scribe (as_worker l.initial.scribe.view)) l.seats.items;
  count : length l.seats.items ≡ l.i;
}

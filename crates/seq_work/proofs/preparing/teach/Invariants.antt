use Rattle.std.proofs.Common.{◌≡◌, ℕ, ◌<◌, length, get_or}
use Rattle.seq_words.specs.Seats.{Sitting, IsOf}
use Rattle.seq_work.specs.Prepares.{IsTaught}
use Rattle.seq_work.proofs.preparing.teach.Given as goal

abbrev pub invariant-loop-seat : goal.invariant-loop-seat
invariant-loop-seat l = record {
  same : l.scribe ≡ l.initial.scribe;
  taught : (k : ℕ) (d : Sitting) → k < l.seat-index → IsTaught l.words l.inst (get_or l.seat-items k d);
  rest : (k : ℕ) (d : Sitting) → k < length l.seat-items → IsOf l.words (get_or l.seat-items k d);
}

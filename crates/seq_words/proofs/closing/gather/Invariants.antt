use Rattle.std.proofs.Common.{All, vec_len}
use Rattle.seq_words.specs.declared.view.View.{View}
use Rattle.seq_words.specs.Knowledge.{Covers}
use Rattle.seq_words.specs.Seats.{IsOf, Sitting}
use Rattle.seq_words.proofs.closing.gather.Given as goal

abbrev pub invariant-loop-seat : goal.invariant-loop-seat
invariant-loop-seat l = record {
  of : IsOf l.words l.scribe;
  first : Covers l.scribe.view l.initial.scribe.view;
  rest : All (λ (s : Sitting). IsOf l.words s) l.seats.items;
  all : (u : View) → Covers u l.scribe.view → All (λ (s : Sitting). Covers u s.view) l.seats.items → All (λ (s : Sitting). Covers u s.view) l.initial.seats.items;
}

abbrev pub decreases-loop-seat : goal.decreases-loop-seat
decreases-loop-seat l = vec_len l.seats

use Rattle.std.proofs.Common.{◌≡◌}
use Rattle.seq_cert.specs.Reading.{place, states_at}
use Rattle.seq_cert.proofs.Loops.{with_front}
use Rattle.seq_cert.proofs.class_reader.states_of.Given as goal

abbrev pub invariant-loop-left : goal.invariant-loop-left
invariant-loop-left l = with_front l.lines (states_at l.room l.left (place l.at)) ≡ states_at l.fn.room l.fn.count (place l.fn.start)

abbrev pub decreases-loop-left : goal.decreases-loop-left
decreases-loop-left l = l.left

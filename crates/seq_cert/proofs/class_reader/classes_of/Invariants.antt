use Rattle.std.proofs.Common.{◌≡◌, ◌-◌}
use Rattle.seq_cert.specs.Reading.{place, classes_at}
use Rattle.seq_cert.proofs.Loops.{with_front}
use Rattle.seq_cert.proofs.class_reader.classes_of.Given as goal

abbrev pub invariant-loop-k : goal.invariant-loop-k
invariant-loop-k l = with_front l.lines (classes_at l.room (l.count - l.k) l.k (place l.at)) ≡ classes_at 4097 l.count 0 (place l.start)

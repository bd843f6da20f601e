use Rattle.std.proofs.Common.{◌≡◌, ◌-◌}
use Rattle.seq_cert.specs.LineForms.{test_in}
use Rattle.seq_cert.specs.Reading.{place, lines_at}
use Rattle.seq_cert.proofs.Loops.{with_front}
use Rattle.seq_cert.proofs.test_reader.tests_of.Given as goal

abbrev pub invariant-loop-k : goal.invariant-loop-k
invariant-loop-k l = with_front l.lines (lines_at test_in (l.count - l.k) l.k (place l.at)) ≡ lines_at test_in l.count 0 (place l.start)

use Rattle.std.proofs.Common.{◌≡◌, ◌-◌}
use Rattle.seq_cert.specs.LineForms.{group_in}
use Rattle.seq_cert.specs.Reading.{place, lines_at}
use Rattle.seq_cert.proofs.Loops.{with_front}
use Rattle.seq_cert.proofs.group_reader.groups_of.Given as goal

abbrev pub invariant-loop : goal.invariant-loop
invariant-loop l = with_front l.lines (lines_at (λ k. group_in) (l.count - l.counter) l.counter (place l.at)) ≡ lines_at (λ k. group_in) l.count 0 (place l.start)

use Rattle.std.proofs.Common.{◌≡◌, length}
use Rattle.seq_cert.specs.Reading.{place, read_tree}
use Rattle.seq_cert.proofs.Loops.{with_front}
use Rattle.seq_cert.proofs.tree_reader.tree_of.Given as goal

abbrev pub invariant-loop-line : goal.invariant-loop-line
invariant-loop-line l = with_front l.lines (read_tree l.asks (place l.at)) ≡ read_tree 511 (place l.start)

abbrev pub decreases-loop-line : goal.decreases-loop-line
decreases-loop-line l = length ((l.at).rest).now

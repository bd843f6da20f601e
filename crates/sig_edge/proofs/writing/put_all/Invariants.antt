use Rattle.std.proofs.Common.{length, ◌-◌, ◌≤◌, take}
use Rattle.sig_edge.specs.Sink.{Appends}
use Rattle.sig_edge.proofs.writing.put_all.Given as goal

-- just the first `sent` bytes were appended, and no fault was taken back
abbrev pub invariant-loop-sent : goal.invariant-loop-sent
invariant-loop-sent g l =
    (l.sent ≤ length l.bytes)
    × Appends (g.K.Sink.wrote l.initial.sink) (g.K.Sink.wrote l.sink) (take l.sent l.bytes)
    × (g.K.Sink.faults l.initial.sink ≤ g.K.Sink.faults l.sink)

abbrev pub decreases-loop-sent : goal.decreases-loop-sent
decreases-loop-sent g l = length l.bytes - l.sent

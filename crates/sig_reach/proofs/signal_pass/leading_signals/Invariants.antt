use Rattle.std.proofs.Common.{◌+◌, length}
use Rattle.std.specs.List.{sum_by}
use Rattle.sig_reach.specs.Words.{room}
use Rattle.sig_reach.proofs.SignalLaws.{PassingSignals}
use Rattle.sig_reach.proofs.signal_pass.leading_signals.Given as goal

abbrev pub invariant-waiting : goal.invariant-waiting
invariant-waiting l = PassingSignals l.sources l.stops l.target l.words.items l.pending.items l.waiting.items

abbrev pub decreases-waiting : goal.decreases-waiting
decreases-waiting l = sum_by room l.words.items + length l.waiting.items

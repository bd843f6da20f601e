use Rattle.std.proofs.Common.{take}
use Rattle.sig_reach.specs.Words.{SpreadSignals}
use Rattle.sig_reach.proofs.signal_pass.spread_signals.Given as goal

abbrev pub invariant-loop-node : goal.invariant-loop-node
invariant-loop-node l = SpreadSignals (take l.node-index l.nodes) l.signals l.initial.words l.initial.pending l.initial.waiting.items l.words l.pending l.waiting.items

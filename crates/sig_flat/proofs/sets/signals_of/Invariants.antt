use Rattle.std.proofs.Common.{◌≡◌, drop}
use Rattle.sig_flat.specs.Words.{with_names}
use Rattle.sig_flat.proofs.sets.signals_of.Given as goal

abbrev pub invariant-loop-name : goal.invariant-loop-name
invariant-loop-name l = with_names l.valid.signals l.word (drop l.name-index l.names) ≡ with_names l.valid.signals 0 l.names

use Rattle.sig_types.proofs.RepeatLaws.{AreTaken}
use Rattle.sig_types.proofs.check.names.take_names.Given as goal

abbrev pub invariant-loop-k : goal.invariant-loop-k
invariant-loop-k g l = AreTaken g.T.Named.name_of (g.T.Named.name_place l.list) l.initial.seen.keys l.seen.keys l.items l.k

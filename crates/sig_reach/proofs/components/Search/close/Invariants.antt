use Rattle.sig_reach.specs.Components.{stage_of}
use Rattle.sig_reach.proofs.CloseLaws.{Numbers}
use Rattle.sig_reach.proofs.components.Search.close.Given as goal

abbrev pub invariant-loop-place : goal.invariant-loop-place
invariant-loop-place l = Numbers (stage_of l.fn.self) l.start l.number l.place (stage_of l.self)

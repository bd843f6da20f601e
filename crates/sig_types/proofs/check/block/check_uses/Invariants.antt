use Rattle.sig_types.specs.Breaches.{use_breaches}
use Rattle.sig_types.proofs.VerdictLaws.{AreChecked}
use Rattle.sig_types.proofs.check.block.check_uses.Given as goal

abbrev pub invariant-loop-k : goal.invariant-loop-k
invariant-loop-k l = AreChecked (use_breaches l.index l.block) l.uses l.k

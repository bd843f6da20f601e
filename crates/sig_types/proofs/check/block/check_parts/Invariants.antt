use Rattle.sig_types.specs.Breaches.{part_breaches}
use Rattle.sig_types.proofs.VerdictLaws.{AreChecked}
use Rattle.sig_types.proofs.check.block.check_parts.Given as goal

abbrev pub invariant-loop-k : goal.invariant-loop-k
invariant-loop-k l = AreChecked (part_breaches l.index l.block) l.parts l.k

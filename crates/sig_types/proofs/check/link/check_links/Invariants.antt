use Rattle.sig_types.specs.Breaches.{link_breaches}
use Rattle.sig_types.proofs.VerdictLaws.{AreChecked}
use Rattle.sig_types.proofs.check.link.check_links.Given as goal

abbrev pub invariant-loop-k : goal.invariant-loop-k
invariant-loop-k l = AreChecked (link_breaches l.index l.scope.number l.scope.block) l.links l.k

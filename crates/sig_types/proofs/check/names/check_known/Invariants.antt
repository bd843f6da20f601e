use Rattle.std.proofs.Common.{not}
use Rattle.sig_types.specs.Breaches.{breach_if, has}
use Rattle.sig_types.specs.Spots.{element_place}
use Rattle.sig_types.specs.declared.refusals.Code.TheVariants.{M08}
use Rattle.sig_types.proofs.VerdictLaws.{AreChecked}
use Rattle.sig_types.proofs.check.names.check_known.Given as goal

abbrev pub invariant-loop-k : goal.invariant-loop-k
invariant-loop-k l = AreChecked (λ k name. breach_if (not (has l.known.keys name)) M08 (element_place l.list k)) l.names l.k

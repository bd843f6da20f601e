use Rattle.std.proofs.Common.{ap}
use Rattle.std.proofs.lemmas.List.{get_or_default}
use Rattle.sig_reason.specs.declared.causes.Standing.{Standing}
use Rattle.sig_reason.specs.Causes.{no_standing}
use Rattle.sig_reason.proofs.Gathering.{tally-next}
use Rattle.sig_reason.proofs.rules.tally_of.Goals as goal

pub loop-standing-preserved : goal.loop-standing-preserved
loop-standing-preserved c = tally-next c.args.standings.now c.loop-standing.standing-index c.loop-standing.tally c.with_causes-next.result _ c.loop-standing.invariant c.with_causes-next.ensures
    (ap (λ (s : Standing). s.causes) (get_or_default c.args.standings.now c.loop-standing.standing-index _ no_standing c.loop-standing-test.true))

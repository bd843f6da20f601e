use Rattle.std.proofs.Common.{[]}
use Rattle.std.proofs.lemmas.List.{get_or_default}
use Rattle.sig_reason.proofs.Gathering.{spare-next}
use Rattle.sig_reason.proofs.rules.is_needed.Goals as goal

pub loop-within-preserved : goal.loop-within-preserved
loop-within-preserved c = spare-next c.args.causes c.args.withins.now c.loop-within.within-index _ c.without.result c.without.ensures c.if-is_empty.ensures.some c.loop-within.invariant (get_or_default c.args.withins.now c.loop-within.within-index _ [] c.loop-within-test.true)

use Rattle.std.proofs.Common.{refl}
use Rattle.seq_solo.proofs.tests.one_class.Goals as goal

pub new-requires : goal.new-requires
new-requires c = c.checked_holds.ensures _ _ _ _ _ _ c.in_ok-weights.ensures.items c.new-costs.ensures.items c.new-passes.ensures.items refl

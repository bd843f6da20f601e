use Rattle.std.proofs.Common.{refl}
use Rattle.seq_graph.proofs.choosing_tests.four_faults.Goals as goal

pub new-requires : goal.new-requires
new-requires c = c.checked_holds.ensures _ _ _ _ _ _ c.in_ok-weights.ensures.items c.in_ok-costs.ensures.items c.in_ok-passes.ensures.items refl

use Rattle.std.proofs.Common.{arith}
use Rattle.sig_classes.proofs.GroupingLaws.{grouped-few, grouped-room, grouped-more, grouped-all}
use Rattle.sig_classes.proofs.classes.classes_of.Goals as goal

pub add_state-requires-clause-few : goal.add_state-requires-clause-few
add_state-requires-clause-few c = grouped-few c.args.matrix.now c.requires c.loop-state.state (omega arith) _ _ _ c.loop-state.invariant

pub add_state-requires-clause-room : goal.add_state-requires-clause-room
add_state-requires-clause-room c = λ k. grouped-room c.args.matrix.now c.requires c.loop-state.state (omega arith) _ _ _ c.loop-state.invariant k c.weight.result c.weight.ensures

pub loop-state-preserved : goal.loop-state-preserved
loop-state-preserved c =
    grouped-more c.args.matrix.now c.requires c.loop-state.state (omega arith) _ _ _ c.loop-state.invariant c.row.result c.weight.result _ _ _ c.row.ensures
    c.weight.ensures c.in_ok-add_state.ensures.words c.in_ok-add_state.ensures.rows c.in_ok-add_state.ensures.class c.in_ok-add_state.ensures.weights

pub returns : goal.returns
returns c = grouped-all c.args.matrix.now c.requires c.groups_hold.ensures c.loop-state.state (omega arith) _ c.loop-state.classes c.loop-state.invariant

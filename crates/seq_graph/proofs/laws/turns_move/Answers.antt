use Rattle.seq_graph.proofs.StepLaws.{moved-enter, moved-down, moved-close}
use Rattle.seq_graph.proofs.laws.turns_move.Goals as goal

pub returns-clause-entering : goal.returns-clause-entering
returns-clause-entering c = λ inst limit old r entered new room known n more last. moved-enter inst limit old r entered new room known n more last

pub returns-clause-going_down : goal.returns-clause-going_down
returns-clause-going_down c = λ inst limit old turned new moved known n. moved-down inst limit old turned new moved known n

pub returns-clause-closing : goal.returns-clause-closing
returns-clause-closing c = λ inst limit old new place few lt apart known n closed. moved-close inst limit old new place few lt apart known n closed

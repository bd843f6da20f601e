use Rattle.seq_cert.specs.ByClass.{ArePicked}
use Rattle.seq_cert.proofs.by_class.states_by_class.Given as goal

-- the states before this one are picked
abbrev pub invariant-loop-at : goal.invariant-loop-at
invariant-loop-at l = ArePicked l.states l.classes l.at l.lists.items

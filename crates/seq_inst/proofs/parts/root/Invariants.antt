use Rattle.seq_inst.proofs.RootLaws.{AreBelow}
use Rattle.seq_inst.proofs.parts.root.Given as goal

abbrev pub invariant-loop-class : goal.invariant-loop-class
invariant-loop-class l = AreBelow l.words l.class

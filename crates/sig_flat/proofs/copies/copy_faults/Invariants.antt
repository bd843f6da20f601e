use Rattle.std.proofs.Common.{◌≡◌, ◌++◌, map, take}
use Rattle.sig_flat.specs.Placed.{fault_copy, WeightsFit, FaultsLabelled}
use Rattle.sig_flat.proofs.copies.copy_faults.Given as goal

abbrev pub invariant-loop-fault : goal.invariant-loop-fault
invariant-loop-fault l = (l.faults ≡ l.initial.faults ++ map (fault_copy l.placed) (take l.fault-index l.patterns)) × (WeightsFit l.initial.faults → WeightsFit l.faults) × (FaultsLabelled l.initial.faults → FaultsLabelled l.faults)

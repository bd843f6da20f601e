use Rattle.std.proofs.Common.{◌≡◌, take}
use Rattle.std.specs.List.{flat_map}
use Rattle.sig_flat.specs.Placed.{fault_copies, WeightsFit, FaultsLabelled}
use Rattle.sig_flat.proofs.copies.faults_of_all.Given as goal

abbrev pub invariant-loop-instance : goal.invariant-loop-instance
invariant-loop-instance l = (l.faults ≡ flat_map (fault_copies l.patterns) (take l.instance-index l.placed)) × WeightsFit l.faults × FaultsLabelled l.faults

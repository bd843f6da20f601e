-- The first of some breaches that stand one list after the other: a list that isn't empty has it, and an empty one
-- leaves it to the lists after it.
use Rattle.std.proofs.Common.{◌≡◌, List, [], ◌∷◌, ◌++◌, Some}
use Rattle.std.specs.Prelude.{slice_get}
use Rattle.sig_types.specs.declared.refusals.Refusal.{Refusal}
use Rattle.sig_types.specs.declared.refusals.ModelFault.{ModelFault}
use Rattle.sig_types.specs.declared.refusals.ModelFault.TheVariants.{Refused, OutOfMemory}
use Rattle.sig_types.specs.Refused.{TellsFirst}

first_before : (bs cs : List Refusal) (r : Refusal) → slice_get bs 0 ≡ Some r → slice_get (bs ++ cs) 0 ≡ Some r
first_before [] cs r h = cc
first_before (b ∷ bs) cs r h = h

pub told_before : (fault : ModelFault) (bs cs : List Refusal) → TellsFirst bs fault → TellsFirst (bs ++ cs) fault
told_before (Refused r) bs cs h = first_before bs cs r h
told_before OutOfMemory bs cs h = tt

pub told_after : (fault : ModelFault) (bs cs : List Refusal) → bs ≡ [] → TellsFirst cs fault → TellsFirst (bs ++ cs) fault
told_after fault bs cs none h = rw none h

-- What the faults of a matrix are called, and when none can be called anything.
use Rattle.std.specs.Prelude.{◌≡◌, ℕ, ◌<◌, List, length, slice_index_or}
use Rattle.sig_matrix.specs.declared.matrix.Matrix.{Matrix}
use Rattle.sig_matrix.specs.Detection.{detects}
use Rattle.sig_reason.specs.declared.found.Finding.{Finding}
use Rattle.sig_reason.specs.declared.found.Label.{Label}
use Rattle.sig_reason.specs.declared.found.Label.TheVariants.{Unknown}
use Rattle.sig_reason.specs.declared.found.ReasonFault.{ReasonFault}
use Rattle.sig_reason.specs.declared.found.ReasonFault.TheVariants.{Conflict, OutOfMemory}
use Rattle.sig_reason.specs.FaultSets.{Case, FaultSet, IsConsistent, IsCalled, IsFirstContradicted}

-- the case of a matrix and what was found
abbrev pub case_of : Matrix → List Finding → Case
case_of matrix findings = record { faults = length matrix.faults; detects = detects matrix; findings = findings }

-- each fault is called what it is to be called
pub record AreCalled (c : Case) (labels : List Label) : Type 0 where
  pub long : length labels ≡ c.faults
  pub each : (f : ℕ) → f < c.faults → IsCalled c f (slice_index_or labels f Unknown)

-- no set of faults is consistent, and this is the first test that shows it
pub record IsConflict (c : Case) (test : ℕ) : Type 0 where
  pub impossible : (set : FaultSet) → ¬ IsConsistent c set
  pub first : IsFirstContradicted c test

-- why the faults of a case aren't labelled; want of memory says nothing
abbrev pub IsRefusedBy : Case → ReasonFault → Type 0
IsRefusedBy c (Conflict test) = IsConflict c test
IsRefusedBy c OutOfMemory = Unit {0}

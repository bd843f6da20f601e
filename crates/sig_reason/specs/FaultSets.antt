-- Which sets of faults may be present, given which tests passed and which failed.
--
-- A failed test detects one of the faults that are present, and a passed test none of them. So the sets that may be present are the
-- hitting sets of Reiter ("A Theory of Diagnosis from First Principles", 1987) and of de Kleer and Williams ("Diagnosing
-- Multiple Faults", 1987): of each failed test they have a fault, and they have no fault that a passed test would have shown.
use Rattle.std.specs.Prelude.{◌≡◌, ℕ, ◌<◌, ◌≤◌, Bool, true, false, List, All, Contains}
use Rattle.std.specs.Bool.{MatchBool}
use Rattle.sig_reason.specs.declared.found.Finding.{Finding}
use Rattle.sig_reason.specs.declared.found.Label.{Label}
use Rattle.sig_reason.specs.declared.found.Label.TheVariants.{Good, Bad, Suspect, Unknown}

-- a case at the bench: how many faults there are, which test detects which of them, and what the tests found
pub record Case : Type 0 where
  pub faults : ℕ
  pub detects : ℕ → ℕ → Bool
  pub findings : List Finding

-- a set of faults, which tells of each fault whether it is in the set
abbrev pub FaultSet : Type 0
FaultSet = ℕ → Bool

-- the test detects a fault of the set
abbrev pub DetectsOneOf : Case → FaultSet → ℕ → Type 0
DetectsOneOf c set test = (f : ℕ) × (f < c.faults) × (set f ≡ true) × (c.detects f test ≡ true)

-- the finding is as it must be where just the faults of the set are present: the test fails if it detects one of them, and else passes
abbrev pub AgreesWith : Case → FaultSet → Finding → Type 0
AgreesWith c set x = MatchBool x.failed (DetectsOneOf c set x.test) (¬ DetectsOneOf c set x.test)

-- the set is consistent: each finding agrees with it
abbrev pub IsConsistent : Case → FaultSet → Type 0
IsConsistent c set = All (AgreesWith c set) c.findings

-- the set is within the other, which has a fault beside
pub record IsProperSubset (c : Case) (set other : FaultSet) : Type 0 where
  pub within : (f : ℕ) → f < c.faults → set f ≡ true → other f ≡ true
  pub beside : (f : ℕ) × (f < c.faults) × (other f ≡ true) × (set f ≡ false)

-- the set is minimal: it is consistent, and no proper subset is
pub record IsMinimal (c : Case) (set : FaultSet) : Type 0 where
  pub consistent : IsConsistent c set
  pub none_within : (other : FaultSet) → IsProperSubset c other set → ¬ IsConsistent c other

-- the fault is in no consistent set
abbrev pub IsInNone : Case → ℕ → Type 0
IsInNone c f = (set : FaultSet) → IsConsistent c set → set f ≡ false

-- the fault is in every consistent set
abbrev pub IsInEvery : Case → ℕ → Type 0
IsInEvery c f = (set : FaultSet) → IsConsistent c set → set f ≡ true

-- the fault is in some minimal set
abbrev pub IsInSomeMinimal : Case → ℕ → Type 0
IsInSomeMinimal c f = (set : FaultSet) × IsMinimal c set × (set f ≡ true)

-- what a fault is called: good in no consistent set, bad in every one, suspect in some minimal one but not in every one, unknown otherwise
abbrev pub IsCalled : Case → ℕ → Label → Type 0
IsCalled c f Good = IsInNone c f
IsCalled c f Bad = IsInEvery c f
IsCalled c f Suspect = IsInSomeMinimal c f × (¬ IsInEvery c f)
IsCalled c f Unknown = (¬ IsInNone c f) × (¬ IsInEvery c f) × (¬ IsInSomeMinimal c f)

-- some set is consistent
abbrev pub IsPossible : Case → Type 0
IsPossible c = (set : FaultSet) × IsConsistent c set

-- a passed test detects the fault
abbrev pub IsCleared : Case → ℕ → Type 0
IsCleared c f = (x : Finding) × Contains c.findings x × (x.failed ≡ false) × (c.detects f x.test ≡ true)

-- the test failed, though a passed test detects each fault that it detects
pub record IsContradicted (c : Case) (test : ℕ) : Type 0 where
  pub failed : Contains c.findings (record { test = test; failed = true })
  pub cleared : (f : ℕ) → f < c.faults → c.detects f test ≡ true → IsCleared c f

-- the lowest of the contradicted tests
pub record IsFirstContradicted (c : Case) (test : ℕ) : Type 0 where
  pub here : IsContradicted c test
  pub lowest : (other : ℕ) → IsContradicted c other → test ≤ other

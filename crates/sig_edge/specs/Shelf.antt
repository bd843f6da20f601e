-- What a shelf holds, and what a read of it gives. A shelf may tell what it holds, as a shelf in memory does, or not, as a file
-- system can't. So each definition says something of the files only where they are told, and holds anyway where they aren't.
use Rattle.std.specs.Prelude.{◌≡◌, ⊤, ℕ, ◌<◌, ◌≤◌, List, length, take, drop, Option, Some, None, Result, Ok, Err, IsErrOf}
use Rattle.sig_edge.specs.Causes.{Rose}
use Rattle.sig_edge.specs.declared.shelf.ShelfFault.{ShelfFault}
use Rattle.sig_edge.specs.declared.shelf.ShelfFault.TheVariants.{Missing, Failed}

-- what is held under each name, or nothing where the shelf doesn't tell
abbrev pub Holds : Type 0
Holds = Option (List ℕ → Option (List ℕ))

-- `into` begins with n bytes of the file, from `at` on; none come only at the file's end
pub record IsPart (bytes : List ℕ) (at : ℕ) (into : List ℕ) (n : ℕ) : Type 0 where
  pub same : take n into ≡ take n (drop at bytes)
  pub within : n ≤ length (drop at bytes)
  pub ends : n ≡ 0 → 0 < length into → length bytes ≤ at

-- what was read is a part of the file, which is held
abbrev pub PartOf : Option (List ℕ) → ℕ → List ℕ → ℕ → Type 0
PartOf None at into n = ⊥
PartOf (Some bytes) at into n = IsPart bytes at into n

-- where the shelf tells, what a read of the name says of what is held
abbrev pub ReadsAt : Holds → List ℕ → ℕ → List ℕ → Result ℕ ShelfFault → Type 0
ReadsAt None name at into result = ⊤
ReadsAt (Some held) name at into (Ok n) = PartOf (held name) at into n
ReadsAt (Some held) name at into (Err Missing) = held name ≡ None
ReadsAt (Some held) name at into (Err Failed) = ⊤

-- each fault has its cause in its count, and neither count falls
pub record HasShelfCause {T : Type 0} (faults faults' misses misses' : ℕ) (result : Result T ShelfFault) : Type 0 where
  pub faults_later : faults ≤ faults'
  pub misses_later : misses ≤ misses'
  pub failed : IsErrOf result Failed → Rose faults faults'
  pub missing : IsErrOf result Missing → Rose misses misses'

-- where the shelf tells, the name is held with just these bytes
abbrev pub HoldsWhole : Holds → List ℕ → List ℕ → Type 0
HoldsWhole None name bytes = ⊤
HoldsWhole (Some held) name bytes = held name ≡ Some bytes

-- where the shelf tells, the name isn't held
abbrev pub HoldsNone : Holds → List ℕ → Type 0
HoldsNone None name = ⊤
HoldsNone (Some held) name = held name ≡ None

-- there is a file, and it has more bytes than the limit
abbrev pub LongerIn : Option (List ℕ) → ℕ → Type 0
LongerIn None limit = ⊥
LongerIn (Some bytes) limit = limit < length bytes

-- where the shelf tells, the name is held with more bytes than the limit
abbrev pub HoldsLonger : Holds → List ℕ → ℕ → Type 0
HoldsLonger None name limit = ⊤
HoldsLonger (Some held) name limit = LongerIn (held name) limit

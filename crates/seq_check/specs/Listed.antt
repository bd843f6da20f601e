-- The listed groups in a map, and those of which less than their bound is claimed in a set.
use Rattle.std.specs.Prelude.{◌≡◌, ℕ, ◌≤◌, false, List}
use Rattle.std.specs.Ordering.{nat_cmp}
use Rattle.std.specs.Cmp.Lexicographic.{slice_cmp}
use Rattle.std.specs.BTreeMap.{BTreeMap, get}
use Rattle.std.specs.BTreeSet.{BTreeSet, contains}
use Rattle.seq_theory.specs.Problem.{Problem}
use Rattle.seq_theory.specs.Bound.{bound}
use Rattle.seq_theory.specs.Claims.{claim_of, claimed}
use Rattle.seq_inst.specs.Members.{members, IsWords}
use Rattle.seq_inst.specs.declared.group.Group.{Group}
use Rattle.seq_cert.specs.declared.report.GroupLine.{GroupLine}
use Rattle.seq_check.specs.declared.listing.Listing.{Listing}
use Rattle.seq_check.specs.GroupLooks.{claims_of}

-- the map has the low of each listed group, from the first line that lists it
abbrev pub AreLows : BTreeMap (List ℕ) ℕ → List GroupLine → Type 0
AreLows m lines = (g : Group) → IsWords g → get (slice_cmp nat_cmp) m g.0 ≡ claim_of (claims_of lines) (members g)

-- a group that the set lacks counts at least its bound, whether it is listed or not
abbrev pub AreBelow : Problem → BTreeSet (List ℕ) → List GroupLine → Type 0
AreBelow p s lines = (g : Group) → IsWords g → contains (slice_cmp nat_cmp) s g.0 ≡ false → bound p (members g) ≤ claimed p (claims_of lines) (members g)

-- what is kept is that of these lines
pub record IsListing (p : Problem) (l : Listing) (lines : List GroupLine) : Type 0 where
  pub lows : AreLows l.lows lines
  pub below : AreBelow p l.below lines

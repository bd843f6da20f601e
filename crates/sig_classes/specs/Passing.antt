-- By test, the ambiguity groups that pass it.
use Rattle.std.specs.Prelude.{◌≡◌, ℕ, ◌<◌, true, not, ◌&&◌, ◌||◌, nat_eq, List, length, slice_index_or}
use Rattle.seq_theory.specs.States.{System, class_of, firsts}
use Rattle.seq_inst.specs.declared.group.Group.{Group}
use Rattle.seq_inst.specs.Members.{has_class}
use Rattle.seq_inst.specs.Valid.{no_class}
use Rattle.sig_matrix.specs.Detection.{in_row}

-- each test has the ambiguity groups whose states don't fail it, and no class besides
pub record ArePassing (sys : System) (passes : List Group) : Type 0 where
  pub as_many : length passes ≡ sys.tests
  pub words : (t : ℕ) → t < length passes → length (slice_index_or passes t no_class).0 ≡ 8
  pub passing : (t s : ℕ) → t < sys.tests → s < sys.states → has_class (slice_index_or passes t no_class) (class_of sys s) ≡ not (sys.fails s t)
  pub within : (t c : ℕ) → t < sys.tests → c < 512 → has_class (slice_index_or passes t no_class) c ≡ true → c < length (firsts sys)

-- the groups have eight words each
abbrev pub AreEightWords : List Group → Type 0
AreEightWords groups = (t : ℕ) → t < length groups → length (slice_index_or groups t no_class).0 ≡ 8

-- the class is put to the group, which has the others as before
pub record AddsTo (class : ℕ) (old new : Group) : Type 0 where
  pub eight : length new.0 ≡ 8
  pub added : (c : ℕ) → c < 512 → has_class new c ≡ (has_class old c || nat_eq c class)

-- the class is put to each test that its row doesn't fail, and all else stays
pub record AddsClass (row : List ℕ) (class : ℕ) (old new : List Group) : Type 0 where
  pub as_many : length new ≡ length old
  pub words : AreEightWords new
  pub added : (t c : ℕ) → t < length old → c < 512
      → has_class (slice_index_or new t no_class) c ≡ (has_class (slice_index_or old t no_class) c || (nat_eq c class && not (in_row row t)))

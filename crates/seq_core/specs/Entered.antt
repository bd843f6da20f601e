-- When a search may stop.
use Rattle.std.specs.Prelude.{◌≡◌, ◌⊎◌, ℕ, false, List, length, Option, Some, None}
use Rattle.seq_theory.specs.Problem.{Problem, all_classes}
use Rattle.seq_theory.specs.Graph.{is_entered, low, val, IsReal}
use Rattle.seq_inst.specs.declared.group.Group.{Group}
use Rattle.seq_inst.specs.declared.outcome.Row.{Row}
use Rattle.seq_inst.specs.Members.{members}
use Rattle.seq_inst.specs.Valid.{no_class}

abbrev pub no_row : Row
no_row = record { group = no_class; low = 0; up = 0 }

-- the entered groups show the least cost over all classes
abbrev pub AreEnough : Problem → List (List ℕ) → Type 0
AreEnough p entered = val p entered (all_classes p) ≡ Some (low p entered (all_classes p))

-- a real group that was not entered
abbrev pub IsMissed : Problem → List (List ℕ) → Option Group → Type 0
IsMissed p entered None = ⊥
IsMissed p entered (Some g) = IsReal p (members g) × (is_entered entered (members g) ≡ false)

-- as many groups as the limit allows were entered, and a real group was not
pub record IsFull (p : Problem) (limit : ℕ) (entered : List (List ℕ)) (missed : Option Group) : Type 0 where
  pub many : length entered ≡ limit
  pub missed_is : IsMissed p entered missed

-- a search may stop: the entered groups show the least cost, or the limit was met
abbrev pub MayStop : Problem → ℕ → List (List ℕ) → Option Group → Type 0
MayStop p limit entered missed = AreEnough p entered ⊎ IsFull p limit entered missed

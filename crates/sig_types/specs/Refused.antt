-- What the outcome of a look for breaches says of them.
use Rattle.std.specs.Prelude.{◌≡◌, ⊤, List, [], Some, Result, Ok, Err, MatchResult, slice_get}
use Rattle.sig_types.specs.declared.refusals.Refusal.{Refusal}
use Rattle.sig_types.specs.declared.refusals.ModelFault.{ModelFault}
use Rattle.sig_types.specs.declared.refusals.ModelFault.TheVariants.{Refused, OutOfMemory}

-- a refusal is the first of the breaches, by std's word for the element at an index, which std's laws of lists speak of;
-- want of memory may come at any time, and says nothing of them
abbrev pub TellsFirst : List Refusal → ModelFault → Type 0
TellsFirst breaches (Refused refusal) = slice_get breaches 0 ≡ Some refusal
TellsFirst breaches OutOfMemory = ⊤

-- the outcome is right for these breaches: Ok where there is none, else it tells the first
pub record IsVerdict {X : Type 0} (breaches : List Refusal) (outcome : Result X ModelFault) : Type 0 where
  pub says : MatchResult outcome (λ _. breaches ≡ []) (TellsFirst breaches)

-- the same, where Ok comes with this value
abbrev pub Answers : {X : Type 0} → Result X ModelFault → List Refusal → X → Type 0
Answers (Ok x) breaches value = (breaches ≡ []) × (x ≡ value)
Answers (Err fault) breaches value = TellsFirst breaches fault

-- What a sink has taken. A sink may tell it, as a sink in memory does, or not, as a terminal can't. So each definition says
-- something of the bytes only where they are told.
use Rattle.std.specs.Prelude.{◌≡◌, ℕ, ◌<◌, ◌≤◌, List, ◌++◌, length, take, Option, option_map, Result, Ok, Err, OnErr}
use Rattle.sig_edge.specs.Causes.{Rose}
use Rattle.sig_edge.specs.declared.writing.PutFault.{PutFault}
use Rattle.sig_edge.specs.declared.writing.PutFault.TheVariants.{Failed}

-- where the sink tells, this was added at the end
abbrev pub Appends : Option (List ℕ) → Option (List ℕ) → List ℕ → Type 0
Appends old new piece = new ≡ option_map (λ bytes. bytes ++ piece) old

-- a write appends as many of the piece's first bytes as it says, and nothing where it fails
abbrev pub WritesSome : {E : Type 0} → Option (List ℕ) → Option (List ℕ) → List ℕ → Result ℕ E → Type 0
WritesSome old new piece (Ok n) = (n ≤ length piece) × Appends old new (take n piece)
WritesSome old new piece (Err e) = new ≡ old

-- a fault, or nothing taken of a piece, has its cause in the count, which doesn't fall
pub record HasSinkCause {E : Type 0} (faults faults' : ℕ) (piece : List ℕ) (result : Result ℕ E) : Type 0 where
  pub later : faults ≤ faults'
  pub failed : OnErr result (Rose faults faults')
  pub none_taken : result ≡ Ok 0 → 0 < length piece → Rose faults faults'

-- how many bytes were taken before the fault
abbrev pub sent_of : PutFault → ℕ
sent_of (Failed sent) = sent

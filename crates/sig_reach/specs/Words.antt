-- A pass of all signals at once: each node has a word, whose bits are its signals.
use Rattle.std.specs.Prelude.{◌≡◌, ◌⊎◌, ℕ, ◌+◌, ◌-◌, ◌^◌, ◌<◌, ◌≤◌, Bool, true, not, List, length, map, slice_index}
use Rattle.std.specs.List.{Contains, sum_by}
use Rattle.sig_types.specs.Sets.{has_bit}

-- which nodes let the signal through, where each has the signals that it stops
abbrev pub open_to : ℕ → List ℕ → List Bool
open_to signal stops = map (λ word. not (has_bit word signal)) stops

-- the node's word has the signal
abbrev pub Has : List ℕ → ℕ → ℕ → Type 0
Has words node signal = has_bit (slice_index words node) signal ≡ true

-- how far a word is below the word of all signals
abbrev pub room : ℕ → ℕ
room word = 2 ^ 64 - 1 - word

-- the signals are put into the words of the nodes; those that a node did not have pend there, and the node waits
pub record SpreadSignals (nodes : List ℕ) (signals : ℕ) (words pending waiting words' pending' waiting' : List ℕ) : Type 0 where
  pub kept : (v s : ℕ) → Has words v s → Has words' v s
  pub given : (v s : ℕ) → s < 64 → Contains nodes v → has_bit signals s ≡ true → Has words' v s
  pub only : (v s : ℕ) → s < 64 → Has words' v s → Has words v s ⊎ (Contains nodes v × (has_bit signals s ≡ true))
  pub pends : (v s : ℕ) → Has pending v s → Has pending' v s
  pub new_pends : (v s : ℕ) → Has words' v s → Has words v s ⊎ Has pending' v s
  pub pends_only : (v s : ℕ) → Has pending' v s → Has pending v s ⊎ Has words' v s
  pub waits : (v : ℕ) → Contains waiting v → Contains waiting' v
  pub new_waits : (v s : ℕ) → Has pending' v s → Has pending v s ⊎ Contains waiting' v
  pub waits_only : (v : ℕ) → Contains waiting' v → Contains waiting v ⊎ Contains nodes v
  pub fewer : sum_by room words' + length waiting' ≤ sum_by room words + length waiting

-- Lists of the numbers of states, one for each class.
use Rattle.std.specs.Prelude.{◌≡◌, ℕ, ◌<◌, List, [], filter, map, length, take, slice_index_or}
use Rattle.std.specs.List.{All}
use Rattle.sig_lines.specs.declared.labels.StateLabel.{StateLabel}
use Rattle.seq_cert.specs.OutcomeReport.{is_of}

-- stands for a state that isn't there
abbrev pub no_state : StateLabel
no_state = record { weight = 0; label = []; class = 0 }

-- the numbers pick these states out of the list
pub record Picks (states : List StateLabel) (numbers : List ℕ) (picked : List StateLabel) : Type 0 where
  pub there : All (λ i. i < length states) numbers
  pub are : map (λ i. slice_index_or states i no_state) numbers ≡ picked

-- there is a list for each class, which picks the states of the class out of the first so many states, in order
pub record ArePicked (states : List StateLabel) (classes seen : ℕ) (lists : List (List ℕ)) : Type 0 where
  pub count : length lists ≡ classes
  pub picks : (k : ℕ) → k < classes → Picks states (slice_index_or lists k []) (filter (is_of k) (take seen states))

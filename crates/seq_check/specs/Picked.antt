-- The states of some numbers.
use Rattle.std.specs.Prelude.{ℕ, List, map, slice_index_or}
use Rattle.sig_lines.specs.declared.labels.StateLabel.{StateLabel}
use Rattle.seq_cert.specs.ByClass.{no_state}

abbrev pub picked : List StateLabel → List ℕ → List StateLabel
picked states numbers = map (λ i. slice_index_or states i no_state) numbers

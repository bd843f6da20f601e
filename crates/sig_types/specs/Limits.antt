-- How large a model may be before its blocks are unfolded.
use Rattle.std.specs.Prelude.{ℕ}

abbrev pub most_signals : ℕ
most_signals = 64

abbrev pub most_modes : ℕ
most_modes = 32

abbrev pub most_blocks : ℕ
most_blocks = 1024

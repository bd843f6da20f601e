-- Where the words of a place stand, and the rows that they hold.
use Rattle.std.specs.Prelude.{◌%◌, ◌&&◌, ◌==◌, leb, cond, ℕ, zero, suc, ◌+◌, ◌*◌, List, [], ◌∷◌, ◌++◌, slice_index}
use Rattle.seq_theory.specs.Rows.{no_value}
use Rattle.seq_inst.specs.declared.outcome.Row.{Row}

-- word 0 serves the moves of seats, and word 1 stays 0. Each place has eight words of bits, a state word, a low and an up
abbrev pub bits_at : ℕ → ℕ → ℕ
bits_at place part = 11 * place + (2 + part)

abbrev pub state_at : ℕ → ℕ
state_at place = 11 * place + 10

abbrev pub low_at : ℕ → ℕ
low_at place = 11 * place + 11

abbrev pub up_at : ℕ → ℕ
up_at place = 11 * place + 12

-- so many words from the i-th on
abbrev pub span : List ℕ → ℕ → ℕ → List ℕ
span words i zero = []
span words i (suc n) = slice_index words i ∷ span words (i + 1) n

-- the row that the words of a place hold
abbrev pub row_held : List ℕ → ℕ → Row
row_held words place = record { group = record { 0 = span words (11 * place + 2) 8 }; low = slice_index words (low_at place); up = slice_index words (up_at place) }

-- the rows of the first n places, in order: where these are the published ones, the core of the words
abbrev pub core_of : List ℕ → ℕ → List Row
core_of words zero = []
core_of words (suc n) = core_of words n ++ row_held words n ∷ []

-- what the words hold at first: 0, and each up word the greatest number
abbrev pub blank_word : ℕ → ℕ
blank_word k = cond (leb 12 k && (k % 11 == 1)) no_value 0

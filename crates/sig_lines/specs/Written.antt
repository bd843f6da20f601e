-- A text that is written word by word. It is known by its bytes so far and by whether its last line has begun, so that
-- a word needs no condition: it may be empty or hold a space, and is appended as it is. A line is its words and its end,
-- and lines are one after another: so what the calls of a writer do, one by one, are the lines that it says it writes.
use Rattle.std.specs.Prelude.{ℕ, Bool, true, false, cond, List, [], ◌∷◌, ◌++◌}
use Rattle.std.specs.List.{fold}
use Rattle.sig_lines.specs.Pieces.{Words}

-- the bytes so far, and whether a word was appended since the last LF
pub record Written : Type 0 where
  pub text : List ℕ
  pub begun : Bool

-- nothing is written
abbrev pub nothing_written : Written
nothing_written = record { text = []; begun = false }

-- one more word, after a space where the line has begun
unfoldable pub with_word : Written → List ℕ → Written
with_word w word = record { text = w.text ++ cond w.begun (32 ∷ word) word; begun = true }

-- the line ends
unfoldable pub with_end : Written → Written
with_end w = record { text = w.text ++ 10 ∷ []; begun = false }

-- a line of words
abbrev pub with_line : Written → Words → Written
with_line w words = with_end (fold with_word w words)

-- lines of words, one after another
abbrev pub with_lines : Written → List Words → Written
with_lines w lines = fold with_line w lines

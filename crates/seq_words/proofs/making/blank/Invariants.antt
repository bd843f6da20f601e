use Rattle.std.proofs.Common.{◌≡◌, ◌<◌, ℕ, length, slice_index}
use Rattle.seq_words.specs.Layout.{blank_word}
use Rattle.seq_words.proofs.making.blank.Given as goal

abbrev pub invariant-loop-k : goal.invariant-loop-k
invariant-loop-k l = record { len : length l.words.items ≡ l.k; words : (j : ℕ) → j < l.k → slice_index l.words.items j ≡ blank_word j }

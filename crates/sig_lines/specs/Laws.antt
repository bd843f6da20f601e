-- What a text, its lines and their words tell of each other, and a word of the number that it writes: who reads a text
-- line by line shows by these that it reads just what is written.
use Rattle.std.specs.Prelude.{◌≡◌, ℕ, ◌^◌, ◌<◌, ◌≤◌, List, [], ◌∷◌, ◌++◌, length, slice_index, decimal, Option, Some}
use Rattle.sig_lines.specs.Hex.{number_of_words, hex}
use Rattle.sig_lines.specs.Pieces.{Words, Lacks, words_in, lines_in, tail_in, spaced, ended, one, two, three, four}
use Rattle.sig_lines.specs.Numbers.{number_in, hex_in, words_of}

-- a word has no space and no LF
abbrev pub IsPlain : List ℕ → Type 0
IsPlain w = Lacks 32 w × Lacks 10 w

abbrev pub ArePlain : Words → Type 0
ArePlain [] = Unit {0}
ArePlain (w ∷ ws) = IsPlain w × ArePlain ws

-- there is a word
abbrev pub IsSome : Words → Type 0
IsSome [] = ⊥
IsSome (w ∷ ws) = Unit {0}

-- lines have no LF
abbrev pub AreLines : List (List ℕ) → Type 0
AreLines [] = Unit {0}
AreLines (l ∷ ls) = Lacks 10 l × AreLines ls

-- the word writes the number, which is in the range
pub record WritesNumber (least most : ℕ) (word : List ℕ) (n : ℕ) : Type 0 where
  pub is : word ≡ decimal n
  pub low : least ≤ n
  pub high : n ≤ most

-- the word writes in hexadecimal a number of eight words, which are these
pub record WritesWords (word ws : List ℕ) : Type 0 where
  pub n : ℕ
  pub is : word ≡ hex n
  pub small : n < 2 ^ 512
  pub words : words_of 8 n ≡ ws

pub record LinesHold : Type 0 where
  -- a text is its lines and what follows the last, and lines are found again in their text
  pub lines : (text : List ℕ) → ended (lines_in text) ++ tail_in text ≡ text
  pub lines_again : (ls : List (List ℕ)) → AreLines ls → lines_in (ended ls) ≡ ls
  pub tail_again : (ls : List (List ℕ)) → tail_in (ended ls) ≡ []
  -- a line is its words, and plain words are found again in their line, which has no LF
  pub words : (line : List ℕ) → spaced (words_in line) ≡ line
  pub words_again : (ws : Words) → IsSome ws → ArePlain ws → words_in (spaced ws) ≡ ws
  pub one_line : (ws : Words) → ArePlain ws → Lacks 10 (spaced ws)
  -- the words of a line of one, two, three and four
  pub one_is : (ws : Words) (x : List ℕ) → one ws ≡ Some x → ws ≡ x ∷ []
  pub two_are : (ws : Words) (x : List ℕ × List ℕ) → two ws ≡ Some x → ws ≡ x.0 ∷ x.1 ∷ []
  pub three_are : (ws : Words) (x : List ℕ × List ℕ × List ℕ) → three ws ≡ Some x → ws ≡ x.0 ∷ x.1 ∷ x.2 ∷ []
  pub four_are : (ws : Words) (x : List ℕ × List ℕ × List ℕ × List ℕ) → four ws ≡ Some x → ws ≡ x.0 ∷ x.1 ∷ x.2 ∷ x.3 ∷ []
  -- a word in decimal writes the number that is found in it, and has no space
  pub number : (least most : ℕ) (word : List ℕ) (n : ℕ) → number_in least most word ≡ Some n → WritesNumber least most word n
  pub number_again : (least most n : ℕ) → n < 2 ^ 64 → least ≤ n → n ≤ most → number_in least most (decimal n) ≡ Some n
  pub number_plain : (n : ℕ) → n < 2 ^ 64 → IsPlain (decimal n)
  -- and so in hexadecimal
  pub hex_words : (word ws : List ℕ) → hex_in word ≡ Some ws → WritesWords word ws
  pub hex_again : (n : ℕ) → n < 2 ^ 512 → hex_in (hex n) ≡ Some (words_of 8 n)
  pub hex_plain : (n : ℕ) → IsPlain (hex n)
  -- eight words are those of their number, and a number of eight words is that of its words
  pub eight_again : (word ws : List ℕ) → length ws ≡ 8 → ((i : ℕ) → i < length ws → slice_index ws i < 2 ^ 64) → word ≡ hex (number_of_words ws) → hex_in word ≡ Some ws
  pub eight_are : (n : ℕ) → n < 2 ^ 512 → number_of_words (words_of 8 n) ≡ n

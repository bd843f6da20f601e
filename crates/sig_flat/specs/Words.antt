-- The word of a set of names: the bit of each name's place is set.
use Rattle.std.specs.Prelude.{ℕ, ◌^◌, nat_lt, cond, List, [], ◌∷◌, length}
use Rattle.std.specs.List.{position_or_len}
use Rattle.std.specs.Str.{bytes_eq}
use Rattle.std.specs.Int.Bits.{bit_or}

-- the first place of a name among all names; where it isn't there, their number
abbrev pub place_among : List (List ℕ) → List ℕ → ℕ
place_among all name = position_or_len (bytes_eq name) all

-- the word with the bit of the name's place, where the name is there
unfoldable pub with_name : List (List ℕ) → ℕ → List ℕ → ℕ
with_name all word name = cond (nat_lt (place_among all name) (length all)) (bit_or word (2 ^ place_among all name)) word

-- the word with the bits of the names' places
abbrev pub with_names : List (List ℕ) → ℕ → List (List ℕ) → ℕ
with_names all word [] = word
with_names all word (name ∷ rest) = with_names all (with_name all word name) rest

unfoldable pub word_of : List (List ℕ) → List (List ℕ) → ℕ
word_of all names = with_names all 0 names

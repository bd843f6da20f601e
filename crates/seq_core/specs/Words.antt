-- Groups by their words.
use Rattle.std.specs.Prelude.{◌≡◌, ℕ, List, Some, slice_get}
use Rattle.seq_inst.specs.Members.{members, IsWords}

-- the words are those of a group
abbrev pub AreItsWords : List ℕ → Type 0
AreItsWords words = IsWords (record { 0 = words })

abbrev pub AreWords : List (List ℕ) → Type 0
AreWords keys = (n : ℕ) (words : List ℕ) → slice_get keys n ≡ Some words → AreItsWords words

-- the classes of the group that has these words
abbrev pub classes_of : List ℕ → List ℕ
classes_of words = members (record { 0 = words })

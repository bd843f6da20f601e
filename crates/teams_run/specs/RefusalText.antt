-- How a refusal is printed.
use Rattle.std.specs.Prelude.{ℕ, List, [], ◌∷◌, ◌++◌, decimal, codes, Option, Some, None}
use Rattle.sig_lines.specs.Pieces.{Words, bytes_of}
use Rattle.sig_types.specs.Words.{code_word, counted_word, kind_word, key_word}
use Rattle.sig_types.specs.declared.refusals.Refusal.{Refusal}
use Rattle.sig_types.specs.declared.refusals.Place.{Place}
use Rattle.sig_types.specs.declared.refusals.Place.TheVariants.{Document, States, ModeOption, Count, In}
use Rattle.sig_types.specs.declared.refusals.Kind.{Kind}
use Rattle.sig_types.specs.declared.refusals.Key.{Key}

-- a word, and a number in brackets where there is one
abbrev pub with_number : List ℕ → Option ℕ → List ℕ
with_number word None = word
with_number word (Some n) = word ++ 91 ∷ (decimal n ++ 93 ∷ [])

-- the key with its element
abbrev pub key_step : Option Key → Option ℕ → List ℕ
key_step None element = []
key_step (Some key) element = with_number (key_word key) element

-- further steps inside a block, each after a dot
abbrev pub item_step : Option (Kind × ℕ) → List ℕ
item_step None = []
item_step (Some item) = 46 ∷ with_number (kind_word item.0) (Some item.1)

abbrev pub test_step : Option ℕ → List ℕ
test_step None = []
test_step (Some test) = 46 ∷ with_number (codes "test") (Some test)

abbrev pub last_step : Option Key → Option ℕ → List ℕ
last_step None element = []
last_step (Some key) element = 46 ∷ with_number (key_word key) element

-- a place: its steps in the order block, item, test, key; outside a block only a key is named
abbrev pub spot_word : Option ℕ → Option (Kind × ℕ) → Option ℕ → Option Key → Option ℕ → List ℕ
spot_word None item test key element = key_step key element
spot_word (Some block) item test key element = with_number (codes "block") (Some block) ++ item_step item ++ test_step test ++ last_step key element

abbrev pub place_word : Place → List ℕ
place_word Document = codes "document"
place_word States = codes "states"
place_word ModeOption = codes "mode"
place_word (Count counted) = counted_word counted
place_word (In block item test key element) = spot_word block item test key element

-- refused CODE at PLACE
abbrev pub refusal_words : Refusal → Words
refusal_words r = codes "refused" ∷ code_word r.code ∷ codes "at" ∷ place_word r.place ∷ []

abbrev pub refusal_line : Refusal → List ℕ
refusal_line r = bytes_of (refusal_words r ∷ [])

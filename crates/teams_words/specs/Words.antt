-- The words of a command line as lists: the values of each option, and the words that are no option.
use Rattle.std.specs.Prelude.{ℕ, Bool, false, cond, ◌&&◌, not, nat_eq, nat_lt, List, [], ◌∷◌, ◌++◌, length, take, drop, codes, Option, Some, None, option_map}
use Rattle.std.specs.Str.{bytes_eq}
use Rattle.teams_words.specs.declared.word.OptionName.{OptionName}
use Rattle.teams_words.specs.declared.word.OptionName.TheVariants.{Cert, Workers, Groups, Mode, Log}

-- a word that is no option: it isn't empty and doesn't begin with `-`
abbrev pub is_plain : List ℕ → Bool
is_plain [] = false
is_plain (b ∷ rest) = not (nat_eq b 45)

-- the word begins so, and something follows
abbrev pub goes_on : List ℕ → List ℕ → Bool
goes_on start word = bytes_eq (take (length start) word) start && nat_lt (length start) (length word)

-- the option and the value in `--NAME=VALUE`, where the value isn't empty
abbrev pub valued : List ℕ → Option (OptionName × List ℕ)
valued word =
    cond (goes_on (codes "--cert=") word) (Some (Cert, drop 7 word))
    (cond (goes_on (codes "--workers=") word) (Some (Workers, drop 10 word))
    (cond (goes_on (codes "--groups=") word) (Some (Groups, drop 9 word))
    (cond (goes_on (codes "--mode=") word) (Some (Mode, drop 7 word))
    (cond (goes_on (codes "--log=") word) (Some (Log, drop 6 word)) None))))

-- the option in `--NAME`
abbrev pub named : List ℕ → Option OptionName
named word =
    cond (bytes_eq word (codes "--cert")) (Some Cert)
    (cond (bytes_eq word (codes "--workers")) (Some Workers)
    (cond (bytes_eq word (codes "--groups")) (Some Groups)
    (cond (bytes_eq word (codes "--mode")) (Some Mode)
    (cond (bytes_eq word (codes "--log")) (Some Log) None))))

-- the values of each option, and the other words, each list in the order of the words
pub record Parts : Type 0 where
  pub cert : List (List ℕ)
  pub workers : List (List ℕ)
  pub groups : List (List ℕ)
  pub mode : List (List ℕ)
  pub log : List (List ℕ)
  pub others : List (List ℕ)

abbrev pub no_parts : Parts
no_parts = record { cert = []; workers = []; groups = []; mode = []; log = []; others = [] }

-- one value of an option
abbrev pub value_part : OptionName → List ℕ → Parts
value_part Cert value = record no_parts { cert = value ∷ [] }
value_part Workers value = record no_parts { workers = value ∷ [] }
value_part Groups value = record no_parts { groups = value ∷ [] }
value_part Mode value = record no_parts { mode = value ∷ [] }
value_part Log value = record no_parts { log = value ∷ [] }

-- one other word
abbrev pub other_part : List ℕ → Parts
other_part word = record no_parts { others = word ∷ [] }

-- the lists of some words, and then those of the words behind them
abbrev pub joined : Parts → Parts → Parts
joined p q = record {
  cert = p.cert ++ q.cert;
  workers = p.workers ++ q.workers;
  groups = p.groups ++ q.groups;
  mode = p.mode ++ q.mode;
  log = p.log ++ q.log;
  others = p.others ++ q.others;
}

abbrev pub with_parts : Parts → Option Parts → Option Parts
with_parts p = option_map (joined p)

-- the lists that begin with a word of this form; `after` gives those of the words behind it, where an option waits for its
-- value or none does
abbrev pub parts_from : Option (OptionName × List ℕ) → Option OptionName → List ℕ → (Option OptionName → Option Parts) → Option Parts
parts_from (Some (name, value)) _ word after = with_parts (value_part name value) (after None)
parts_from None (Some name) word after = after (Some name)
parts_from None None word after = cond (is_plain word) (with_parts (other_part word) (after None)) None

-- the lists of the words from left to right, where an option waits for its value or none does; `--NAME` takes the next word,
-- which has to be there and is no option
abbrev pub parts_after : Option OptionName → List (List ℕ) → Option Parts
parts_after None [] = Some no_parts
parts_after (Some name) [] = None
parts_after None (word ∷ rest) = parts_from (valued word) (named word) word (λ waits. parts_after waits rest)
parts_after (Some name) (word ∷ rest) = cond (is_plain word) (with_parts (value_part name word) (parts_after None rest)) None

-- the lists of the words, or None where some word has no such form
abbrev pub parts_in : List (List ℕ) → Option Parts
parts_in words = parts_after None words

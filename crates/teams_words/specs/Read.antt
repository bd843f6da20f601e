-- What the code's values stand for while the words are read.
use Rattle.std.specs.Prelude.{◌≡◌, ⊤, ℕ, Bool, true, false, List, ◌∷◌, map, codes, Option, Some, None, option_map}
use Rattle.std.specs.Borrow.{Bor}
use Rattle.clap.specs.Words.{first_value}
use Rattle.clap.specs.declared.parser.matches.Found.{Found}
use Rattle.teams_words.specs.declared.word.Word.{Word}
use Rattle.teams_words.specs.declared.word.Word.TheVariants.{Valued, Named, Plain, Refused}
use Rattle.teams_words.specs.declared.parts.Parts.{Parts as CodeParts}
use Rattle.teams_words.specs.declared.parts.Reader.{Reader}
use Rattle.teams_words.specs.declared.planning.Chosen.{Chosen as CodeChosen}
use Rattle.teams_words.specs.Words.{Parts, valued, named, is_plain, parts_after, with_parts}
use Rattle.teams_words.specs.Plans.{Chosen}

-- the word has this form
abbrev pub HasForm : List ℕ → Word → Type 0
HasForm word (Valued name value) = valued word ≡ Some (name, value.now)
HasForm word (Named name) = (valued word ≡ None) × (named word ≡ Some name)
HasForm word Plain = (valued word ≡ None) × (named word ≡ None) × (is_plain word ≡ true)
HasForm word Refused = (valued word ≡ None) × (named word ≡ None) × (is_plain word ≡ false)

-- the texts behind references
abbrev pub texts : List (Bor (List ℕ)) → List (List ℕ)
texts = map (λ t. t.now)

abbrev pub parts_of : CodeParts → Parts
parts_of p = record {
  cert = texts p.cert.items;
  workers = texts p.workers.items;
  groups = texts p.groups.items;
  mode = texts p.mode.items;
  log = texts p.log.items;
  others = texts p.others.items;
}

-- the lists of all words, by what was read and what is left
abbrev pub whole : Reader → List (List ℕ) → Option Parts
whole r rest = with_parts (parts_of r.parts) (parts_after r.waits rest)

-- one word more is read, whatever words follow, or it is refused
abbrev pub Reads : List ℕ → Reader → Reader → Bool → Type 0
Reads word old new true = (rest : List (List ℕ)) → whole old (word ∷ rest) ≡ whole new rest
Reads word old new false = (rest : List (List ℕ)) → whole old (word ∷ rest) ≡ None

abbrev pub ArePartsOf : Option Parts → Option CodeParts → Type 0
ArePartsOf parts None = parts ≡ None
ArePartsOf parts (Some p) = parts ≡ Some (parts_of p)

-- what clap found is what was chosen
abbrev pub Finds : Option Chosen → Found → Type 0
Finds None f = ⊤
Finds (Some c) f =
    (first_value f (codes "action") ≡ Some c.action)
    × (first_value f (codes "model") ≡ Some c.model)
    × (first_value f (codes "cert") ≡ c.cert)
    × (first_value f (codes "workers") ≡ c.workers)
    × (first_value f (codes "groups") ≡ c.groups)
    × (first_value f (codes "mode") ≡ c.mode)
    × (first_value f (codes "log") ≡ c.log)

-- what the code's choice stands for
abbrev pub choice : CodeChosen → Chosen
choice c = record {
  action = c.action.now;
  model = c.model.now;
  cert = option_map (λ t. t.now) c.cert;
  workers = option_map (λ t. t.now) c.workers;
  groups = option_map (λ t. t.now) c.groups;
  mode = option_map (λ t. t.now) c.mode;
  log = option_map (λ t. t.now) c.log;
}

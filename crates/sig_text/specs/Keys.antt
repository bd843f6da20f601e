-- The keys that each kind of table may have.
use Rattle.std.specs.Prelude.{ℕ, Bool, true, ◌&&◌, not, List, [], ◌∷◌, Option, Some, None, map, option_map, take, drop}
use Rattle.std.specs.List.{list_all, list_any}
use Rattle.std.specs.Str.{bytes_eq}
use Rattle.toml.specs.Data.{Data, Members, no_members, member, get_member}
use Rattle.toml.specs.View.{view}
use Rattle.sig_text.specs.declared.keys.Found.{Found}
use Rattle.sig_types.specs.declared.refusals.Code.TheVariants.{M04}
use Rattle.sig_types.specs.declared.refusals.Key.{Key}
use Rattle.sig_types.specs.declared.refusals.Key.TheVariants.{Version, Good, Top, Signals, Modes, Block, Name, Ports, Switches, Part, Use, Point, Link, Functional, General, Stops, Test, Cost, Mode, From, To}
use Rattle.sig_types.specs.declared.refusals.Place.{Place}
use Rattle.sig_types.specs.declared.refusals.Refusal.{Refusal}
use Rattle.sig_types.specs.Words.{key_word}
use Rattle.sig_types.specs.Breaches.{breach_if}

-- what stands at a key of a table
abbrev pub value_at : Key → Members → Option Data
value_at key members = get_member (key_word key) members

-- what stands at each of some keys of a table
abbrev pub values_at : List Key → Members → List (Option Data)
values_at keys members = map (λ key. value_at key members) keys

-- the values that were found at the known keys, from the next one to be taken on
abbrev pub values_left : Found → List (Option Data)
values_left found = drop found.next (take found.count (map (option_map view) found.values))

abbrev pub document_keys : List Key
document_keys = Version ∷ Good ∷ Top ∷ Signals ∷ Modes ∷ Block ∷ []

abbrev pub block_keys : List Key
block_keys = Name ∷ Ports ∷ Switches ∷ Part ∷ Use ∷ Point ∷ Link ∷ []

abbrev pub faulty_part_keys : List Key
faulty_part_keys = Name ∷ Functional ∷ Signals ∷ General ∷ Stops ∷ []

-- the signals of a part are those of its functional fault, so they are known only where there is one
abbrev pub part_keys : Option Data → List Key
part_keys None = Name ∷ Functional ∷ General ∷ Stops ∷ []
part_keys (Some functional) = faulty_part_keys

abbrev pub use_keys : List Key
use_keys = Name ∷ Block ∷ []

abbrev pub point_keys : List Key
point_keys = Name ∷ Test ∷ []

abbrev pub test_keys : List Key
test_keys = Name ∷ Cost ∷ Signals ∷ Mode ∷ []

abbrev pub link_keys : List Key
link_keys = From ∷ To ∷ Modes ∷ []

-- no two of the keys are written alike
abbrev pub are_apart : List Key → Bool
are_apart [] = true
are_apart (key ∷ keys) = list_all (λ other. not (bytes_eq (key_word other) (key_word key))) keys && are_apart keys

-- the text is one of these keys
abbrev pub is_known : List Key → List ℕ → Bool
is_known known text = list_any (λ key. bytes_eq (key_word key) text) known

-- each key of the table is known
abbrev pub are_known : List Key → Members → Bool
are_known known no_members = true
are_known known (member text d more) = is_known known text && are_known known more

-- M04 at the table where one of its keys isn't known there
abbrev pub unknown_keys : List Key → Place → Members → List Refusal
unknown_keys known place members = breach_if (not (are_known known members)) M04 place

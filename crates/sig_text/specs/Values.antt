-- The breaches of a single value, and what it stands for. What a value of the wrong kind stands for is 0 or empty; it
-- is never read.
use Rattle.std.specs.Prelude.{ℕ, ◌+◌, ◌==◌, pos, negsuc, Bool, ◌&&◌, ◌||◌, not, nat_le, if◌then◌else◌, List, [], ◌∷◌, ◌++◌, Option, Some, None}
use Rattle.std.specs.List.{before_first, after_first}
use Rattle.toml.specs.Data.{Data, string, integer, array, table, Items, no_items, item, Members, no_members}
use Rattle.sig_types.specs.NameText.{is_name}
use Rattle.sig_types.specs.declared.model.End.{End}
use Rattle.sig_types.specs.declared.refusals.Code.TheVariants.{M02, M03, M05, M06, M09}
use Rattle.sig_types.specs.declared.refusals.Refusal.{Refusal}
use Rattle.sig_types.specs.declared.spot.Spot.{Spot}
use Rattle.sig_types.specs.Breaches.{breach, breach_if}
use Rattle.sig_types.specs.Spots.{at_element, place_of}

-- an integer from low to high
abbrev pub number_breaches : ℕ → ℕ → Spot → Data → List Refusal
number_breaches low high at (integer (pos n)) = breach_if (not (nat_le low n && nat_le n high)) M09 (place_of at)
number_breaches low high at (integer (negsuc n)) = breach M09 (place_of at)
number_breaches low high at _ = breach M05 (place_of at)

abbrev pub number_of : Data → ℕ
number_of (integer (pos n)) = n
number_of _ = 0

-- the version of the form, which is 1
abbrev pub version_breaches : Spot → Data → List Refusal
version_breaches at (integer (pos n)) = breach_if (not (n == 1)) M02 (place_of at)
version_breaches at (integer (negsuc n)) = breach M02 (place_of at)
version_breaches at _ = breach M05 (place_of at)

-- a string that is a name
abbrev pub name_breaches : Spot → Data → List Refusal
name_breaches at (string text) = breach_if (not (is_name text)) M06 (place_of at)
name_breaches at _ = breach M05 (place_of at)

abbrev pub name_of : Data → List ℕ
name_of (string text) = text
name_of _ = []

-- a link's end: a name, or two names with one `.` between them. No name has a `.`, so what stands before the first
-- one and what stands after it are names only where there is no other
abbrev pub is_dot : ℕ → Bool
is_dot byte = byte == 46

abbrev pub is_pair : List ℕ → Bool
is_pair text = is_name (before_first is_dot text) && is_name (after_first is_dot text)

abbrev pub pair_in : List ℕ → End
pair_in text = record { first = before_first is_dot text; second = Some (after_first is_dot text) }

abbrev pub is_end : List ℕ → Bool
is_end text = is_name text || is_pair text

abbrev pub end_in : List ℕ → End
end_in text = if is_name text then record { first = text; second = None } else pair_in text

abbrev pub end_breaches : Spot → Data → List Refusal
end_breaches at (string text) = breach_if (not (is_end text)) M06 (place_of at)
end_breaches at _ = breach M05 (place_of at)

abbrev pub end_of : Data → End
end_of (string text) = end_in text
end_of _ = end_in []

-- the elements from the one of number n on, each looked at whole before the next
abbrev pub each_breaches : (Spot → Data → List Refusal) → Spot → ℕ → Items → List Refusal
each_breaches breaches at n no_items = []
each_breaches breaches at n (item d more) = breaches (at_element at n) d ++ each_breaches breaches at (n + 1) more

abbrev pub each_of : {A : Type 0} → (Data → A) → Items → List A
each_of value no_items = []
each_of value (item d more) = value d ∷ each_of value more

-- an array: it has to be one, and then its elements in order
abbrev pub array_breaches : (Spot → Data → List Refusal) → Spot → Data → List Refusal
array_breaches breaches at (array ds) = each_breaches breaches at 0 ds
array_breaches breaches at _ = breach M05 (place_of at)

abbrev pub list_of : {A : Type 0} → (Data → A) → Data → List A
list_of value (array ds) = each_of value ds
list_of value _ = []

-- a table that stands at a spot
abbrev pub table_breaches : (Spot → Members → List Refusal) → (Spot → Spot) → Spot → Data → List Refusal
table_breaches breaches inside at (table members) = breaches (inside at) members
table_breaches breaches inside at _ = breach M05 (place_of at)

abbrev pub table_of : {A : Type 0} → (Members → A) → Data → A
table_of value (table members) = value members
table_of value _ = value no_members

-- what stands at a required key, and at one that may be absent
abbrev pub required_breaches : (Spot → Data → List Refusal) → Spot → Option Data → List Refusal
required_breaches breaches at None = breach M03 (place_of at)
required_breaches breaches at (Some d) = breaches at d

abbrev pub optional_breaches : (Spot → Data → List Refusal) → Spot → Option Data → List Refusal
optional_breaches breaches at None = []
optional_breaches breaches at (Some d) = breaches at d

-- what the value at a key stands for: an absent one for what an empty array does
abbrev pub value_or_empty : {A : Type 0} → (Data → A) → Option Data → A
value_or_empty value None = value (array no_items)
value_or_empty value (Some d) = value d

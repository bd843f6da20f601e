-- A block's uses and links by numbers: where the instances of its uses begin, and which nodes its links join,
-- counted from the first node of an instance. Numbers stand still at the end of a word.
use Rattle.std.specs.Prelude.{ℕ, ◌+◌, ◌<◌, List, [], ◌∷◌, map, length, slice_index, slice_index_or, Option, Some, None}
use Rattle.sig_types.specs.declared.model.Block.{Block}
use Rattle.sig_types.specs.declared.model.Used.{Used}
use Rattle.sig_types.specs.declared.model.Link.{Link}
use Rattle.sig_flat.specs.declared.inner.Inner.{Inner}
use Rattle.sig_flat.specs.declared.links.LinkPattern.{LinkPattern}
use Rattle.sig_flat.specs.Flats.{alive_modes}
use Rattle.sig_flat.specs.Sizes.{in_word}
use Rattle.sig_flat.specs.Words.{place_among, word_of}

-- the number of the block that a use has
abbrev pub number_of : List (List ℕ) → Used → ℕ
number_of names used = place_among names used.block

abbrev pub numbers_of_block : List (List ℕ) → Block → List ℕ
numbers_of_block names block = map (number_of names) block.uses

-- the uses, each with its block and the place where its instance begins
abbrev pub inners_from : List ℕ → ℕ → List Used → List ℕ → List Inner
inners_from sizes offset [] numbers = []
inners_from sizes offset (used ∷ rest) [] = []
inners_from sizes offset (used ∷ rest) (block ∷ numbers) =
    record { name = used.name; block = block; offset = offset } ∷ inners_from sizes (in_word (offset + slice_index sizes block)) rest numbers

abbrev pub no_inner : Inner
no_inner = record { name = []; block = 0; offset = 0 }

-- the place of a port of a use
unfoldable pub port_place : List Inner → List (List (List ℕ)) → ℕ → List ℕ → ℕ
port_place inners names nth port = in_word ((slice_index_or inners nth no_inner).offset + place_among (slice_index_or names (slice_index_or inners nth no_inner).block []) port)

-- the place of a link's end, where `own` are the names of the block's nodes and `uses` those of its uses
abbrev pub end_place : List (List ℕ) → List (List ℕ) → List Inner → List (List (List ℕ)) → List ℕ → Option (List ℕ) → ℕ
end_place own uses inners names first None = place_among own first
end_place own uses inners names first (Some port) = port_place inners names (place_among uses first) port

abbrev pub link_pattern : List (List ℕ) → List (List ℕ) → List (List ℕ) → List Inner → List (List (List ℕ)) → Link → LinkPattern
link_pattern modes own uses inners names link = record {
  from = end_place own uses inners names link.from.first link.from.second;
  to = end_place own uses inners names link.to.first link.to.second;
  modes = record { 0 = word_of modes (alive_modes modes link.modes) };
}

-- an end with a port names a use
abbrev pub NamesUse : List (List ℕ) → List ℕ → Option (List ℕ) → Type 0
NamesUse uses first None = Unit {0}
NamesUse uses first (Some port) = place_among uses first < length uses

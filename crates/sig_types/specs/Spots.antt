-- Where the tables, keys and elements of a document stand.
use Rattle.std.specs.Prelude.{ℕ, Some, None, option_map}
use Rattle.sig_types.specs.declared.refusals.Key.{Key}
use Rattle.sig_types.specs.declared.refusals.Kind.{Kind}
use Rattle.sig_types.specs.declared.refusals.Place.{Place}
use Rattle.sig_types.specs.declared.refusals.Place.TheVariants.{In}
use Rattle.sig_types.specs.declared.spot.Spot.{Spot}

-- the document's own table, a block of it, an item of a block, a test of a point
abbrev pub document_spot : Spot
document_spot = record { block = None; item = None; test = None; key = None; element = None }

abbrev pub block_at : ℕ → Spot
block_at n = record document_spot { block = Some n }

abbrev pub item_at : Spot → Kind → ℕ → Spot
item_at spot kind n = record spot { item = Some (kind, n) }

abbrev pub test_at : Spot → ℕ → Spot
test_at spot n = record spot { test = Some n }

-- a key of a table, and an element of the array at a key
abbrev pub at_key : Spot → Key → Spot
at_key spot key = record spot { key = Some key }

abbrev pub at_element : Spot → ℕ → Spot
at_element spot n = record spot { element = Some n }

-- the table that an element is: a block, an item of a block, a test of a point
abbrev pub as_block : Spot → Spot
as_block spot = record document_spot { block = spot.element }

abbrev pub as_item : Kind → Spot → Spot
as_item kind spot = record document_spot { block = spot.block; item = option_map (λ n. (kind, n)) spot.element }

abbrev pub as_test : Spot → Spot
as_test spot = record document_spot { block = spot.block; item = spot.item; test = spot.element }

-- as a refusal says it
abbrev pub place_of : Spot → Place
place_of spot = In spot.block spot.item spot.test spot.key spot.element

-- the element of this number
abbrev pub element_place : Spot → ℕ → Place
element_place spot n = place_of (at_element spot n)

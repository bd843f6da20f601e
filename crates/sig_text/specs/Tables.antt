-- The breaches of each kind of table, in the order in which they are looked for, and what the table stands for: an
-- unknown key first, then key by key.
use Rattle.std.specs.Prelude.{ℕ, List, [], ◌++◌, Option, Some, None, option_map}
use Rattle.toml.specs.Data.{Data, Members}
use Rattle.sig_types.specs.declared.model.Model.{Model}
use Rattle.sig_types.specs.declared.model.Block.{Block}
use Rattle.sig_types.specs.declared.model.Part.{Part}
use Rattle.sig_types.specs.declared.model.Functional.{Functional}
use Rattle.sig_types.specs.declared.model.Used.{Used}
use Rattle.sig_types.specs.declared.model.Point.{Point}
use Rattle.sig_types.specs.declared.model.Test.{Test}
use Rattle.sig_types.specs.declared.model.Link.{Link}
use Rattle.sig_types.specs.declared.model.End.{End}
use Rattle.sig_types.specs.declared.refusals.Key.{Key}
use Rattle.sig_types.specs.declared.refusals.Key.TheVariants.{Version, Good, Top, Signals, Modes, Block as BlockKey, Name, Ports, Switches, Part as PartKey, Use, Point as PointKey, Link as LinkKey, Functional as FunctionalKey, General, Stops, Test as TestKey, Cost, Mode, From, To}
use Rattle.sig_types.specs.declared.refusals.Kind.TheVariants.{Part as PartKind, Use as UseKind, Point as PointKind, Link as LinkKind}
use Rattle.sig_types.specs.declared.refusals.Place.TheVariants.{Document}
use Rattle.sig_types.specs.declared.refusals.Refusal.{Refusal}
use Rattle.sig_types.specs.declared.spot.Spot.{Spot}
use Rattle.sig_types.specs.Spots.{as_block, as_item, as_test, at_key, document_spot, place_of}
use Rattle.sig_text.specs.Keys.{value_at, document_keys, block_keys, part_keys, use_keys, point_keys, test_keys, link_keys, unknown_keys}
use Rattle.sig_text.specs.Values.{number_breaches, number_of, version_breaches, name_breaches, name_of, end_breaches, end_of, array_breaches, list_of, table_breaches, table_of, required_breaches, optional_breaches, value_or_empty}

-- what is wrong at a required key of a table, and at one that may be absent
abbrev pub required_at : (Spot → Data → List Refusal) → Spot → Key → Members → List Refusal
required_at breaches spot key members = required_breaches breaches (at_key spot key) (value_at key members)

abbrev pub optional_at : (Spot → Data → List Refusal) → Spot → Key → Members → List Refusal
optional_at breaches spot key members = optional_breaches breaches (at_key spot key) (value_at key members)

-- weights and costs, and the weight of no fault
abbrev pub weight_breaches : Spot → Data → List Refusal
weight_breaches = number_breaches 1 1000000

abbrev pub good_breaches : Spot → Data → List Refusal
good_breaches = number_breaches 0 1000000

abbrev pub names_breaches : Spot → Data → List Refusal
names_breaches = array_breaches name_breaches

-- a number, a name, an end and a list of names at a key
abbrev pub number_at : Key → Members → ℕ
number_at key members = value_or_empty number_of (value_at key members)

abbrev pub name_at : Key → Members → List ℕ
name_at key members = value_or_empty name_of (value_at key members)

abbrev pub end_at : Key → Members → End
end_at key members = value_or_empty end_of (value_at key members)

abbrev pub names_at : Key → Members → List (List ℕ)
names_at key members = value_or_empty (list_of name_of) (value_at key members)

-- a list of tables at a key
abbrev pub tables_at : {A : Type 0} → (Members → A) → Key → Members → List A
tables_at value key members = value_or_empty (list_of (table_of value)) (value_at key members)

-- a link
abbrev pub link_breaches : Spot → Members → List Refusal
link_breaches spot members =
    unknown_keys link_keys (place_of spot) members
    ++ (required_at end_breaches spot From members
    ++ (required_at end_breaches spot To members
    ++ optional_at names_breaches spot Modes members))

abbrev pub link_of : Members → Link
link_of members = record { from = end_at From members; to = end_at To members; modes = names_at Modes members }

-- a test
abbrev pub test_breaches : Spot → Members → List Refusal
test_breaches spot members =
    unknown_keys test_keys (place_of spot) members
    ++ (required_at name_breaches spot Name members
    ++ (required_at weight_breaches spot Cost members
    ++ (required_at names_breaches spot Signals members
    ++ optional_at name_breaches spot Mode members)))

abbrev pub test_of : Members → Test
test_of members = record {
  name = name_at Name members;
  cost = number_at Cost members;
  signals = names_at Signals members;
  mode = option_map name_of (value_at Mode members);
}

-- a point
abbrev pub point_breaches : Spot → Members → List Refusal
point_breaches spot members =
    unknown_keys point_keys (place_of spot) members
    ++ (required_at name_breaches spot Name members
    ++ optional_at (array_breaches (table_breaches test_breaches as_test)) spot TestKey members)

abbrev pub point_of : Members → Point
point_of members = record { name = name_at Name members; tests = tables_at test_of TestKey members }

-- a use of a block
abbrev pub use_breaches : Spot → Members → List Refusal
use_breaches spot members =
    unknown_keys use_keys (place_of spot) members
    ++ (required_at name_breaches spot Name members
    ++ required_at name_breaches spot BlockKey members)

abbrev pub use_of : Members → Used
use_of members = record { name = name_at Name members; block = name_at BlockKey members }

-- the functional fault of a part: its weight, and its signals, which are required with it
abbrev pub functional_breaches : Spot → Option Data → Option Data → List Refusal
functional_breaches spot signals None = []
functional_breaches spot signals (Some weight) =
    weight_breaches (at_key spot FunctionalKey) weight ++ required_breaches names_breaches (at_key spot Signals) signals

abbrev pub functional_of : Option Data → Option Data → Option Functional
functional_of signals None = None
functional_of signals (Some weight) = Some (record { weight = number_of weight; signals = value_or_empty (list_of name_of) signals })

-- a part
abbrev pub part_breaches : Spot → Members → List Refusal
part_breaches spot members =
    unknown_keys (part_keys (value_at FunctionalKey members)) (place_of spot) members
    ++ (required_at name_breaches spot Name members
    ++ (functional_breaches spot (value_at Signals members) (value_at FunctionalKey members)
    ++ (optional_at weight_breaches spot General members
    ++ optional_at names_breaches spot Stops members)))

abbrev pub part_of : Members → Part
part_of members = record {
  name = name_at Name members;
  functional = functional_of (value_at Signals members) (value_at FunctionalKey members);
  general = option_map number_of (value_at General members);
  stops = names_at Stops members;
}

-- a block
abbrev pub block_breaches : Spot → Members → List Refusal
block_breaches spot members =
    unknown_keys block_keys (place_of spot) members
    ++ (required_at name_breaches spot Name members
    ++ (optional_at names_breaches spot Ports members
    ++ (optional_at names_breaches spot Switches members
    ++ (optional_at (array_breaches (table_breaches part_breaches (as_item PartKind))) spot PartKey members
    ++ (optional_at (array_breaches (table_breaches use_breaches (as_item UseKind))) spot Use members
    ++ (optional_at (array_breaches (table_breaches point_breaches (as_item PointKind))) spot PointKey members
    ++ optional_at (array_breaches (table_breaches link_breaches (as_item LinkKind))) spot LinkKey members))))))

abbrev pub block_of : Members → Block
block_of members = record {
  name = name_at Name members;
  ports = names_at Ports members;
  switches = names_at Switches members;
  parts = tables_at part_of PartKey members;
  uses = tables_at use_of Use members;
  points = tables_at point_of PointKey members;
  links = tables_at link_of LinkKey members;
}

-- the document's own table, once its version is known to be 1
abbrev pub model_breaches : Members → List Refusal
model_breaches members =
    unknown_keys document_keys Document members
    ++ (required_at good_breaches document_spot Good members
    ++ (required_at name_breaches document_spot Top members
    ++ (optional_at names_breaches document_spot Signals members
    ++ (optional_at names_breaches document_spot Modes members
    ++ required_at (array_breaches (table_breaches block_breaches as_block)) document_spot BlockKey members))))

abbrev pub model_of : Members → Model
model_of members = record {
  good = number_at Good members;
  top = name_at Top members;
  signals = names_at Signals members;
  modes = names_at Modes members;
  blocks = tables_at block_of BlockKey members;
}

-- the document: its version comes before all else
abbrev pub document_breaches : Members → List Refusal
document_breaches members = required_at version_breaches document_spot Version members ++ model_breaches members

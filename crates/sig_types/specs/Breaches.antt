-- The breaches of a model, all of them, in the order in which they are looked for.
use Rattle.std.specs.Prelude.{ℕ, suc, nat_lt, nat_le, not, ◌&&◌, ◌||◌, Bool, true, false, cond, List, [], ◌∷◌, ◌++◌, length, map, codes, Option, Some, None, is_none}
use Rattle.std.specs.List.{list_any, position_or_len}
use Rattle.std.specs.Str.{bytes_eq}
use Rattle.sig_types.specs.declared.model.Model.{Model}
use Rattle.sig_types.specs.declared.model.Block.{Block}
use Rattle.sig_types.specs.declared.model.Part.{Part}
use Rattle.sig_types.specs.declared.model.Functional.{Functional}
use Rattle.sig_types.specs.declared.model.Used.{Used}
use Rattle.sig_types.specs.declared.model.Point.{Point}
use Rattle.sig_types.specs.declared.model.Test.{Test}
use Rattle.sig_types.specs.declared.model.Link.{Link}
use Rattle.sig_types.specs.declared.model.End.{End}
use Rattle.sig_types.specs.declared.refusals.Refusal.{Refusal}
use Rattle.sig_types.specs.declared.refusals.Code.{Code}
use Rattle.sig_types.specs.declared.refusals.Code.TheVariants.{M07, M08, M10, M11, M12, M13}
use Rattle.sig_types.specs.declared.refusals.Place.{Place}
use Rattle.sig_types.specs.declared.refusals.Place.TheVariants.{Count}
use Rattle.sig_types.specs.declared.refusals.Counted.{Counted}
use Rattle.sig_types.specs.declared.refusals.Counted.TheVariants.{Signals as ManySignals, Modes as ManyModes, Blocks as ManyBlocks}
use Rattle.sig_types.specs.declared.refusals.Kind.{Kind}
use Rattle.sig_types.specs.declared.refusals.Kind.TheVariants.{Part as PartKind, Use as UseKind, Point as PointKind, Link as LinkKind}
use Rattle.sig_types.specs.declared.refusals.Key.{Key}
use Rattle.sig_types.specs.Limits.{most_blocks, most_modes, most_signals}
use Rattle.sig_types.specs.Spots.{block_at, document_spot, item_at, place_of, test_at}
use Rattle.sig_types.specs.declared.refusals.Key.TheVariants.{Signals, Modes, Top, Name, Ports, Switches, Stops, Block as BlockKey, Mode, From, To}

-- places

abbrev pub in_document : Key → Option ℕ → Place
in_document key element = place_of (record document_spot { key = Some key; element = element })

abbrev pub in_block : ℕ → Key → Option ℕ → Place
in_block b key element = place_of (record (block_at b) { key = Some key; element = element })

abbrev pub in_item : ℕ → Kind → ℕ → Option Key → Option ℕ → Place
in_item b kind i key element = place_of (record (item_at (block_at b) kind i) { key = key; element = element })

abbrev pub in_test : ℕ → ℕ → ℕ → Key → Option ℕ → Place
in_test b p t key element = place_of (record (test_at (item_at (block_at b) PointKind p) t) { key = Some key; element = element })

-- one breach, and one where the test holds
abbrev pub breach : Code → Place → List Refusal
breach code place = record { code = code; place = place } ∷ []

abbrev pub breach_if : Bool → Code → Place → List Refusal
breach_if broken code place = cond broken (breach code place) []

-- what each element of a list adds, with its number
abbrev pub each_from : {X Y : Type 0} → ℕ → (ℕ → X → List Y) → List X → List Y
each_from n f [] = []
each_from n f (x ∷ rest) = f n x ++ each_from (suc n) f rest

abbrev pub each : {X Y : Type 0} → (ℕ → X → List Y) → List X → List Y
each f xs = each_from 0 f xs

-- the name is among these
abbrev pub has : List (List ℕ) → List ℕ → Bool
has names name = list_any (bytes_eq name) names

-- M07: each name that is among those before it in its scope

pub record Named : Type 0 where
  pub name : List ℕ
  pub place : Place

abbrev pub named : List ℕ → Place → List Named
named name place = record { name = name; place = place } ∷ []

abbrev pub repeats_after : List (List ℕ) → List Named → List Refusal
repeats_after seen [] = []
repeats_after seen (x ∷ rest) = breach_if (has seen x.name) M07 x.place ++ repeats_after (seen ++ x.name ∷ []) rest

abbrev pub repeats : List Named → List Refusal
repeats scope = repeats_after [] scope

-- M08: each name that is not among the known ones
abbrev pub unknown_among : List (List ℕ) → (ℕ → Place) → List (List ℕ) → List Refusal
unknown_among known place names = each (λ k n. breach_if (not (has known n)) M08 (place k)) names

-- where no mode is declared, `normal` is the one mode
abbrev pub or_normal : List (List ℕ) → List (List ℕ)
or_normal [] = codes "normal" ∷ []
or_normal (m ∷ rest) = m ∷ rest

abbrev pub known_modes : Model → List (List ℕ)
known_modes model = or_normal model.modes

-- the scope of a block: ports, switches, parts, uses, points
abbrev pub scope_of : ℕ → Block → List Named
scope_of b block =
    each (λ k n. named n (in_block b Ports (Some k))) block.ports
    ++ each (λ k n. named n (in_block b Switches (Some k))) block.switches
    ++ each (λ k (p : Part). named p.name (in_item b PartKind k (Some Name) None)) block.parts
    ++ each (λ k (u : Used). named u.name (in_item b UseKind k (Some Name) None)) block.uses
    ++ each (λ k (p : Point). named p.name (in_item b PointKind k (Some Name) None)) block.points

abbrev pub names_of : List Named → List (List ℕ)
names_of scope = map (λ (x : Named). x.name) scope

-- a. names that repeat among the tests of a point
abbrev pub repeated_tests : ℕ → List Point → List Refusal
repeated_tests b points = each (λ p (point : Point). repeats (each (λ t (test : Test). named test.name (in_test b p t Name None)) point.tests)) points

-- b. parts
abbrev pub functional_signals : Option Functional → List (List ℕ)
functional_signals None = []
functional_signals (Some f) = f.signals

abbrev pub part_breaches : Model → ℕ → ℕ → Part → List Refusal
part_breaches model b k part =
    unknown_among model.signals (λ e. in_item b PartKind k (Some Signals) (Some e)) (functional_signals part.functional)
    ++ unknown_among model.signals (λ e. in_item b PartKind k (Some Stops) (Some e)) part.stops

-- c. uses: of no block, or of this block or a later one
abbrev pub block_names : Model → List (List ℕ)
block_names model = map (λ (b : Block). b.name) model.blocks

abbrev pub use_breaches : Model → ℕ → ℕ → Used → List Refusal
use_breaches model b k used =
    breach_if (not (has (block_names model) used.block)) M08 (in_item b UseKind k (Some BlockKey) None)
    ++ breach_if (has (block_names model) used.block && nat_le b (position_or_len (bytes_eq used.block) (block_names model))) M10 (in_item b UseKind k (Some BlockKey) None)

-- d. tests
abbrev pub mode_breaches : Model → Place → Option (List ℕ) → List Refusal
mode_breaches model place None = []
mode_breaches model place (Some mode) = breach_if (not (has (known_modes model) mode)) M08 place

abbrev pub test_breaches : Model → ℕ → ℕ → ℕ → Test → List Refusal
test_breaches model b p t test =
    unknown_among model.signals (λ e. in_test b p t Signals (Some e)) test.signals
    ++ mode_breaches model (in_test b p t Mode None) test.mode

-- e. links
abbrev pub has_use : Block → List ℕ → Bool
has_use block name = list_any (λ (u : Used). bytes_eq u.name name) block.uses

-- the name of the block that a use has
abbrev pub block_of_use : List Used → List ℕ → List ℕ
block_of_use [] name = []
block_of_use (u ∷ rest) name = cond (bytes_eq u.name name) u.block (block_of_use rest name)

-- whether the block of the name has the port
abbrev pub has_port : List Block → List ℕ → List ℕ → Bool
has_port [] block port = false
has_port (b ∷ rest) block port = cond (bytes_eq b.name block) (has b.ports port) (has_port rest block port)

-- of an end whose first name is an item
abbrev pub end_of_item : Model → Block → Place → List ℕ → Option (List ℕ) → List Refusal
end_of_item model block place first None = breach_if (has_use block first) M11 place
end_of_item model block place first (Some port) =
    breach_if (not (has_use block first)) M11 place
    ++ breach_if (has_use block first && not (has_port model.blocks (block_of_use block.uses first) port)) M08 place

abbrev pub end_breaches : Model → ℕ → Block → Place → End → List Refusal
end_breaches model b block place e = cond (has (names_of (scope_of b block)) e.first) (end_of_item model block place e.first e.second) (breach M08 place)

-- whether the end is a switch
abbrev pub is_switch : Block → End → Bool
is_switch block e = is_none e.second && has block.switches e.first

abbrev pub names_some : List (List ℕ) → Bool
names_some [] = false
names_some (m ∷ rest) = true

abbrev pub same_answer : Bool → Bool → Bool
same_answer true b = b
same_answer false b = not b

abbrev pub link_breaches : Model → ℕ → Block → ℕ → Link → List Refusal
link_breaches model b block k link =
    end_breaches model b block (in_item b LinkKind k (Some From) None) link.from
    ++ end_breaches model b block (in_item b LinkKind k (Some To) None) link.to
    ++ unknown_among (known_modes model) (λ e. in_item b LinkKind k (Some Modes) (Some e)) link.modes
    ++ breach_if (not (same_answer (is_switch block link.from || is_switch block link.to) (names_some link.modes))) M12 (in_item b LinkKind k None None)

-- what stands in a block: names of tests that repeat, then parts, uses, tests and links
abbrev pub contents_breaches : Model → ℕ → Block → List Refusal
contents_breaches model b block =
    repeated_tests b block.points
    ++ each (part_breaches model b) block.parts
    ++ each (use_breaches model b) block.uses
    ++ each (λ p (point : Point). each (test_breaches model b p) point.tests) block.points
    ++ each (link_breaches model b block) block.links

-- names of items that repeat, and then what stands in the block
abbrev pub block_breaches : Model → ℕ → Block → List Refusal
block_breaches model b block = repeats (scope_of b block) ++ contents_breaches model b block

abbrev pub too_many : Counted → ℕ → ℕ → List Refusal
too_many counted limit count = breach_if (nat_lt limit count) M13 (Count counted)

-- too many signals, modes or blocks
abbrev pub count_breaches : Model → List Refusal
count_breaches model =
    too_many ManySignals most_signals (length model.signals) ++ too_many ManyModes most_modes (length model.modes) ++ too_many ManyBlocks most_blocks (length model.blocks)

-- names that repeat among the signals, the modes and the blocks
abbrev pub repeated_at_top : Model → List Refusal
repeated_at_top model =
    repeats (each (λ k n. named n (in_document Signals (Some k))) model.signals)
    ++ repeats (each (λ k n. named n (in_document Modes (Some k))) model.modes)
    ++ repeats (each (λ b (block : Block). named block.name (in_block b Name None)) model.blocks)

-- each block, and then the top
abbrev pub indexed_breaches : Model → List Refusal
indexed_breaches model =
    each (block_breaches model) model.blocks
    ++ breach_if (not (has (block_names model) model.top)) M08 (in_document Top None)

-- all breaches
abbrev pub breaches : Model → List Refusal
breaches model = count_breaches model ++ repeated_at_top model ++ indexed_breaches model

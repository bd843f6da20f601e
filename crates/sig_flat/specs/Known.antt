-- What the names of a model without breach name.
use Rattle.std.specs.Prelude.{◌≡◌, true, ℕ, ◌<◌, ◌≤◌, List, map, length, Option, Some, None}
use Rattle.std.specs.List.{Contains}
use Rattle.sig_types.specs.declared.model.Model.{Model}
use Rattle.sig_types.specs.declared.model.Block.{Block}
use Rattle.sig_types.specs.declared.model.Used.{Used}
use Rattle.sig_types.specs.declared.model.Point.{Point}
use Rattle.sig_types.specs.declared.model.Test.{Test}
use Rattle.sig_types.specs.declared.model.Link.{Link}
use Rattle.sig_types.specs.Breaches.{block_names, block_of_use}
use Rattle.sig_types.specs.NameText.{is_name}
use Rattle.sig_flat.specs.Instances.{block_named}
use Rattle.sig_flat.specs.Resolved.{block_at}
use Rattle.sig_flat.specs.Places.{own_names}
use Rattle.sig_flat.specs.Words.{place_among}

abbrev pub use_names : Block → List (List ℕ)
use_names block = map (λ (u : Used). u.name) block.uses

-- a node of the block, or a use with a port of its block
abbrev pub EndIsKnown : List Block → Block → List ℕ → Option (List ℕ) → Type 0
EndIsKnown blocks block first None = place_among (own_names block) first < length (own_names block)
EndIsKnown blocks block first (Some port) =
    (place_among (use_names block) first < length (use_names block))
    × (place_among (block_named blocks (block_of_use block.uses first)).ports port < length (block_named blocks (block_of_use block.uses first)).ports)

-- each of the texts is a name
abbrev pub AreNames : List (List ℕ) → Type 0
AreNames names = (name : List ℕ) → Contains names name → is_name name ≡ true

abbrev pub ModeIsKnown : List (List ℕ) → Option (List ℕ) → Type 0
ModeIsKnown modes None = Unit {0}
ModeIsKnown modes (Some mode) = place_among modes mode < length modes

pub record IsKnownBlock (model : Model) (b : ℕ) (block : Block) : Type 0 where
  pub uses : (used : Used) → Contains block.uses used → (place_among (block_names model) used.block < length (block_names model)) × (place_among (block_names model) used.block < b)
  pub tests : (point : Point) → Contains block.points point → (test : Test) → Contains point.tests test → ModeIsKnown model.modes test.mode
  pub from : (link : Link) → Contains block.links link → EndIsKnown model.blocks block link.from.first link.from.second
  pub to : (link : Link) → Contains block.links link → EndIsKnown model.blocks block link.to.first link.to.second

pub record IsKnown (model : Model) : Type 0 where
  pub signals : length model.signals ≤ 64
  pub modes : length model.modes ≤ 32
  pub blocks : length model.blocks ≤ 1024
  pub block : (b : ℕ) → b < length model.blocks → IsKnownBlock model b (block_at model.blocks b)
  pub top : place_among (block_names model) model.top < length (block_names model)

-- The names of a model, each numbered by its place.
use Rattle.std.specs.Prelude.{◌≡◌, ℕ, List, ◌++◌, map}
use Rattle.indexmap.specs.IndexSet.{keys}
use Rattle.sig_types.specs.declared.model.Model.{Model}
use Rattle.sig_types.specs.declared.model.Block.{Block}
use Rattle.sig_types.specs.declared.model.Part.{Part}
use Rattle.sig_types.specs.declared.model.Used.{Used}
use Rattle.sig_types.specs.declared.model.Point.{Point}
use Rattle.sig_types.specs.declared.symbols.Symbols.{Symbols}
use Rattle.sig_types.specs.Breaches.{block_names, known_modes}

-- the names of a block's items: of its ports, switches, parts, uses and points, in this order
abbrev pub item_names : Block → List (List ℕ)
item_names block = block.ports ++ block.switches ++ map (λ (p : Part). p.name) block.parts ++ map (λ (u : Used). u.name) block.uses ++ map (λ (p : Point). p.name) block.points

-- those of each block
abbrev pub items_by_block : Model → List (List (List ℕ))
items_by_block model = map item_names model.blocks

-- each set has the names of a list in its order

pub record AreSymbolsOf (model : Model) (symbols : Symbols) : Type 0 where
  pub signals : symbols.signals.keys ≡ model.signals
  pub modes : symbols.modes.keys ≡ known_modes model
  pub blocks : symbols.blocks.keys ≡ block_names model
  pub items : map keys symbols.items.items ≡ items_by_block model

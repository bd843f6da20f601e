-- What is looked up under a name.
use Rattle.std.specs.Prelude.{ℕ, List, [], ◌∷◌, Option, Some, None, if◌then◌else◌}
use Rattle.std.specs.Str.{bytes_eq}
use Rattle.sig_types.specs.declared.model.Used.{Used}
use Rattle.sig_types.specs.declared.model.Block.{Block}

-- the block of the first use of this name
abbrev pub used_block : List Used → List ℕ → Option (List ℕ)
used_block [] name = None
used_block (u ∷ rest) name = if bytes_eq name u.name then Some u.block else used_block rest name

-- a block with its number among the blocks
pub record Numbered : Type 0 where
  pub number : ℕ
  pub block : Block

-- The patterns of a block and the items of its instances.
use Rattle.std.proofs.Common.{◌≡◌, ℕ, ◌+◌, List, length, length-append}
use Rattle.std.proofs.lemmas.List.{length-map}
use Rattle.sig_types.specs.declared.model.Block.{Block}
use Rattle.sig_flat.specs.Places.{own_names}
use Rattle.sig_flat.specs.Patterns.{pattern_of, node_patterns, first_point}

pub length-node_patterns : (signals : List (List ℕ)) (block : Block) → length (node_patterns signals block) ≡ first_point block + length block.points
unfolding node_patterns
length-node_patterns signals block = simp (length-append, length-map)

-- a block has as many nodes as its pattern
pub nodes-counted : (signals modes : List (List ℕ)) (block : Block) → length (pattern_of signals modes block).nodes ≡ length (own_names block)
unfolding node_patterns
nodes-counted signals modes block = simp (length-append, length-map)

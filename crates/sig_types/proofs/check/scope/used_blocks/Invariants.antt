use Rattle.std.proofs.Common.{◌≡◌, ℕ, List, drop}
use Rattle.std.specs.Option.{option_or}
use Rattle.std.specs.Str.{bytes_eq}
use Rattle.indexmap.specs.IndexMap.{get}
use Rattle.sig_types.specs.Lookups.{used_block}
use Rattle.sig_types.proofs.check.scope.used_blocks.Given as goal

-- the first uses of a name that are left count where none was before
abbrev pub invariant-loop-used : goal.invariant-loop-used
invariant-loop-used l = (name : List ℕ) → used_block l.uses name ≡ option_or (get bytes_eq l.blocks name) (used_block (drop l.used-index l.uses) name)

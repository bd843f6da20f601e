use Rattle.std.proofs.Common.{◌≡◌, map, take}
use Rattle.indexmap.specs.IndexSet.{keys}
use Rattle.sig_types.specs.Breaches.{block_breaches}
use Rattle.sig_types.specs.Symbols.{item_names}
use Rattle.sig_types.proofs.VerdictLaws.{AreChecked}
use Rattle.sig_types.proofs.check.block.check_blocks.Given as goal

abbrev pub invariant-loop-b : goal.invariant-loop-b
invariant-loop-b l = record {
  checked : AreChecked (block_breaches l.index) l.blocks l.b;
  items : map keys l.items.items ≡ map item_names (take l.b l.blocks);
}

use Rattle.std.proofs.Common.{◌≡◌, map, take}
use Rattle.indexmap.specs.IndexSet.{keys}
use Rattle.sig_types.proofs.LookupLaws.{port_set}
use Rattle.sig_types.proofs.check.index.ports_of.Given as goal

abbrev pub invariant-loop-block : goal.invariant-loop-block
invariant-loop-block l = map keys l.sets.items ≡ map port_set (take l.block-index l.blocks)

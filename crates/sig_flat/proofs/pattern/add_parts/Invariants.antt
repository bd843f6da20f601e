use Rattle.std.proofs.Common.{◌≡◌, ◌++◌, map, take}
use Rattle.sig_flat.specs.Patterns.{part_pattern}
use Rattle.sig_flat.proofs.pattern.add_parts.Given as goal

abbrev pub invariant-loop-part : goal.invariant-loop-part
invariant-loop-part l = l.nodes ≡ l.initial.nodes ++ map (part_pattern l.valid.signals) (take l.part-index l.parts)

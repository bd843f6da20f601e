use Rattle.std.proofs.Common.{◌≡◌, map, take}
use Rattle.sig_flat.specs.Patterns.{pattern_of}
use Rattle.sig_flat.proofs.pattern.patterns_of.Given as goal

abbrev pub invariant-loop-block : goal.invariant-loop-block
invariant-loop-block l = l.patterns.items ≡ map (pattern_of l.valid.signals l.valid.modes) (take l.block-index l.blocks)

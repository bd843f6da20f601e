use Rattle.std.proofs.Common.{◌≡◌, ◌++◌, map, take}
use Rattle.sig_flat.specs.Patterns.{plain_pattern}
use Rattle.sig_flat.proofs.pattern.add_plain.Given as goal

abbrev pub invariant-loop-name : goal.invariant-loop-name
invariant-loop-name l = l.nodes ≡ l.initial.nodes ++ map (plain_pattern l.kind) (take l.name-index l.names)

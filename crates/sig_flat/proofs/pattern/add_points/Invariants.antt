use Rattle.std.proofs.Common.{◌≡◌, ◌++◌, map, take}
use Rattle.sig_flat.specs.Patterns.{point_pattern}
use Rattle.sig_flat.proofs.pattern.add_points.Given as goal

abbrev pub invariant-loop-point : goal.invariant-loop-point
invariant-loop-point l = l.nodes ≡ l.initial.nodes ++ map point_pattern (take l.point-index l.points)

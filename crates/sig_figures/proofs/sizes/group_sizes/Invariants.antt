use Rattle.std.proofs.Common.{◌≡◌, map}
use Rattle.seq_theory.specs.Problem.{count_up}
use Rattle.sig_figures.specs.Sizes.{group_size}
use Rattle.sig_figures.proofs.sizes.group_sizes.Given as goal

-- the sizes of the groups of the faults so far
abbrev pub invariant-loop-fault : goal.invariant-loop-fault
invariant-loop-fault l = l.sizes.items ≡ map (group_size l.matrix) (count_up 0 l.fault)

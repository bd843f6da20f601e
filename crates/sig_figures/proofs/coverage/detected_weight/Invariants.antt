use Rattle.std.proofs.Common.{◌≡◌, ◌*◌, ◌≤◌}
use Rattle.std.specs.Prelude.{sum_by, filter}
use Rattle.seq_theory.specs.Problem.{count_up}
use Rattle.sig_figures.specs.Coverage.{is_seen, weight_at}
use Rattle.sig_figures.proofs.coverage.detected_weight.Given as goal

-- the weights of the faults so far that are detected, each below a word of 32 bits
abbrev pub invariant-loop-fault : goal.invariant-loop-fault
invariant-loop-fault l = (l.sum ≡ sum_by (weight_at l.matrix) (filter (is_seen l.matrix) (count_up 0 l.fault))) × (l.sum ≤ 4294967296 * l.fault)

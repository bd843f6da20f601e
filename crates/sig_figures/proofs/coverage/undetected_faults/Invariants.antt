use Rattle.std.proofs.Common.{◌≡◌}
use Rattle.std.specs.Prelude.{filter, not}
use Rattle.seq_theory.specs.Problem.{count_up}
use Rattle.sig_figures.specs.Coverage.{is_seen}
use Rattle.sig_figures.proofs.coverage.undetected_faults.Given as goal

-- the faults so far that no test detects
abbrev pub invariant-loop-fault : goal.invariant-loop-fault
invariant-loop-fault l = l.faults ≡ filter (λ fault. not (is_seen l.matrix fault)) (count_up 0 l.fault)

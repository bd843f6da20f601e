use Rattle.std.proofs.Common.{◌≡◌}
use Rattle.std.specs.Prelude.{filter, not}
use Rattle.seq_theory.specs.Problem.{count_up}
use Rattle.sig_figures.specs.Coverage.{sees_fault}
use Rattle.sig_figures.proofs.columns.blind_tests.Given as goal

-- the tests so far that detect no fault
abbrev pub invariant-loop-test : goal.invariant-loop-test
invariant-loop-test l = l.tests ≡ filter (λ test. not (sees_fault l.matrix test)) (count_up 0 l.test)

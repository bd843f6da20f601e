use Rattle.std.proofs.Common.{◌≡◌}
use Rattle.std.specs.List.{filter_map}
use Rattle.std.specs.Option.{option_map}
use Rattle.seq_theory.specs.Problem.{count_up}
use Rattle.sig_figures.specs.Columns.{paired, earlier_equal}
use Rattle.sig_figures.proofs.columns.equal_tests.Given as goal

-- the pairs of the tests so far
abbrev pub invariant-loop-test : goal.invariant-loop-test
invariant-loop-test l = l.tests ≡ filter_map (λ test. option_map (paired test) (earlier_equal l.matrix test)) (count_up 0 l.test)

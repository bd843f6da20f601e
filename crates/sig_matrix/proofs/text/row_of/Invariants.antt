use Rattle.std.proofs.Common.{◌≡◌, map}
use Rattle.std.specs.String.{string_bytes}
use Rattle.seq_theory.specs.Problem.{count_up}
use Rattle.sig_matrix.specs.Detection.{fails}
use Rattle.sig_matrix.specs.MatrixText.{outcome}
use Rattle.sig_matrix.proofs.text.row_of.Given as goal

-- the tests before this one have their characters
abbrev pub invariant-loop-test : goal.invariant-loop-test
invariant-loop-test l = string_bytes l.row ≡ map outcome (map (fails l.matrix l.state) (count_up 0 l.test))

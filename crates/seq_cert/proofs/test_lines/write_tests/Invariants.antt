use Rattle.std.proofs.Common.{◌≡◌, take}
use Rattle.sig_lines.specs.Written.{with_lines}
use Rattle.seq_cert.specs.Text.{test_lines}
use Rattle.seq_cert.proofs.test_lines.write_tests.Given as goal

-- the tests before this one are written
abbrev pub invariant-loop-number : goal.invariant-loop-number
invariant-loop-number l = l.out ≡ with_lines l.fn.out (test_lines 0 (take l.number l.tests))

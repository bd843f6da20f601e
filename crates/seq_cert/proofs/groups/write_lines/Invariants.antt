use Rattle.std.proofs.Common.{◌≡◌, map, take}
use Rattle.sig_lines.specs.Written.{with_lines}
use Rattle.seq_cert.specs.Text.{group_words}
use Rattle.seq_cert.proofs.groups.write_lines.Given as goal

-- the lines before this one are written
abbrev pub invariant-loop-at : goal.invariant-loop-at
invariant-loop-at l = l.out ≡ with_lines l.fn.out (map group_words (take l.at l.lines))

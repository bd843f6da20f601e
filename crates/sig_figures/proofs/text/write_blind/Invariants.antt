use Rattle.std.proofs.Common.{◌≡◌, map, take}
use Rattle.sig_lines.specs.Written.{with_lines}
use Rattle.sig_figures.specs.FiguresText.{blind_words}
use Rattle.sig_figures.proofs.text.write_blind.Given as goal

-- the lines before this one are written
abbrev pub invariant-loop-test : goal.invariant-loop-test
invariant-loop-test l = l.out ≡ with_lines l.fn.out (map (blind_words l.matrix) (take l.test-index l.tests))

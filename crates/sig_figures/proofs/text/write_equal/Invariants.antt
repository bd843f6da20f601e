use Rattle.std.proofs.Common.{◌≡◌, map, take}
use Rattle.sig_lines.specs.Written.{with_lines}
use Rattle.sig_figures.specs.FiguresText.{equal_words}
use Rattle.sig_figures.proofs.text.write_equal.Given as goal

-- the lines before this one are written
abbrev pub invariant-loop-pair : goal.invariant-loop-pair
invariant-loop-pair l = l.out ≡ with_lines l.fn.out (map (equal_words l.matrix) (take l.pair-index l.pairs))

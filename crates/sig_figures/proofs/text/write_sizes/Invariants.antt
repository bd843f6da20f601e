use Rattle.std.proofs.Common.{◌≡◌, map, take}
use Rattle.sig_lines.specs.Written.{with_lines}
use Rattle.sig_figures.specs.FiguresText.{size_words}
use Rattle.sig_figures.proofs.text.write_sizes.Given as goal

-- the lines before this one are written
abbrev pub invariant-loop-size : goal.invariant-loop-size
invariant-loop-size l = l.out ≡ with_lines l.fn.out (map size_words (take l.size-index l.sizes))

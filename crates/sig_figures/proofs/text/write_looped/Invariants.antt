use Rattle.std.proofs.Common.{◌≡◌, map, take}
use Rattle.sig_lines.specs.Written.{with_lines}
use Rattle.sig_figures.specs.FiguresText.{loop_words}
use Rattle.sig_figures.proofs.text.write_looped.Given as goal

-- the lines before this one are written
abbrev pub invariant-loop-node : goal.invariant-loop-node
invariant-loop-node l = l.out ≡ with_lines l.fn.out (map (loop_words l.flat) (take l.node-index l.nodes))

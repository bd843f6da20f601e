use Rattle.std.proofs.Common.{◌≡◌, map, take}
use Rattle.std.specs.List.{fold}
use Rattle.sig_lines.specs.Written.{with_word}
use Rattle.sig_lines.proofs.lines.Lines.line.Given as goal

-- the words before this one are written
abbrev pub invariant-loop-word : goal.invariant-loop-word
invariant-loop-word l = l.self ≡ fold with_word l.fn.self (map (λ word. word.now) (take l.word-index l.words))

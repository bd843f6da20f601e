use Rattle.std.proofs.Common.{◌≡◌, map, drop, string_bytes}
use Rattle.teams_words.specs.Words.{parts_in}
use Rattle.teams_words.specs.Read.{whole}
use Rattle.teams_words.proofs.parts.read_parts.Given as goal

-- the lists so far, and those of the words that are left
abbrev pub invariant-loop-word : goal.invariant-loop-word
invariant-loop-word l = parts_in (map string_bytes l.words) ≡ whole l.reader (map string_bytes (drop l.word-index l.words))
